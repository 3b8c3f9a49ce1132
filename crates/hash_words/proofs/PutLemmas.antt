-- Writes that cover one another.
use Rattle.hash_words.proofs.Common.{◌≡◌, ℕ, ◌+◌, ◌-◌, ◌≤◌, List, ◌++◌, length, take, drop, refl, sym, ap, ◌∙◌, arith, length-append, append_assoc, take-take, take_at, drop_at, length-drop, take-append-drop, drop-drop, length-take-le}
use Rattle.hash_words.specs.Put.{put_at}

front : (a p d : List ℕ) (m n : ℕ) → length a + m ≡ n → m ≤ length p → take n (a ++ (p ++ d)) ≡ a ++ take m p
front a p d m n e fits =
    let size : length (a ++ take m p) ≡ n = omega (arith, length-append a (take m p), length-take-le m p fits) in
    let cut : a ++ (p ++ d) ≡ (a ++ take m p) ++ (drop m p ++ d) =
    sym (append_assoc a (take m p) (drop m p ++ d) ∙ ap (λ (x : List ℕ). a ++ x)
    (sym (append_assoc (take m p) (drop m p) d) ∙ ap (λ (x : List ℕ). x ++ d) (take-append-drop m p))) in
    rw cut (take_at (a ++ take m p) (drop m p ++ d) n size)

back : (a p d : List ℕ) (j n : ℕ) → length a + length p + j ≡ n → drop n (a ++ (p ++ d)) ≡ drop j d
back a p d j n e =
    let size : length (a ++ p) + j ≡ n = omega (arith, length-append a p) in
    rw (← size, ← append_assoc, ← drop-drop j (length (a ++ p)) ((a ++ p) ++ d), drop_at (a ++ p) d (length (a ++ p)) refl) refl

-- the first k bytes of a text, and then all from byte m on
pub put_at-put_at : (at m k : ℕ) (t w : List ℕ) → m ≤ k → k ≤ length t → at + length t ≤ length w
    → put_at (at + m) (drop m t) (put_at at (take k t) w) ≡ put_at at t w
put_at-put_at at m k t w mk kt fits =
    let a : List ℕ = take at w in
    let p : List ℕ = take k t in
    let d : List ℕ = drop (at + length p) w in
    let size_a : length a ≡ at = length-take-le at w (omega arith) in
    let size_p : length p ≡ k = length-take-le k t kt in
    let size_m : length (drop m t) ≡ length t - m = length-drop m t in
    let head = front a p d m (at + m) (omega arith) (omega arith) in
    let rest = back a p d (length t - k) (at + m + length (drop m t)) (omega arith) in
    let end : at + length p + (length t - k) ≡ at + length t = omega arith in
    rw (
      head,
      rest,
      take-take m k t mk,
      drop-drop (length t - k) (at + length p) w,
      end,
      append_assoc a (take m t)
          (drop m t ++ drop (at + length t) w),
      ← append_assoc (take m t) (drop m t) (drop (at + length t) w),
      take-append-drop m t,
    ) refl

-- what stands up to a text's end, once it is written
pub take-put_at : (at : ℕ) (t w : List ℕ) (n : ℕ) → n ≡ at + length t → at ≤ length w → take n (put_at at t w) ≡ take at w ++ t
take-put_at at t w n e fits =
    let size : length (take at w ++ t) ≡ n = omega (arith, length-append (take at w) t, length-take-le at w fits) in
    rw (← append_assoc) (take_at (take at w ++ t) (drop (at + length t) w) n size)

-- what was put first
pub take-put_first : (t w : List ℕ) → take (length t) (put_at 0 t w) ≡ t
take-put_first t w = take_at t (drop (0 + length t) w) (length t) refl

-- what is written over keeps its length
pub length-put_at : (at : ℕ) (t w : List ℕ) → at + length t ≤ length w → length (put_at at t w) ≡ length w
length-put_at at t w fits =
    omega (
      arith,
      length-append (take at w) (t ++ drop (at + length t) w),
      length-append t (drop (at + length t) w),
      length-take-le at w (omega arith),
      length-drop (at + length t) w,
    )

-- two texts, one behind the other
pub take-put_two : (at next : ℕ) (s t w : List ℕ) (n : ℕ) → next ≡ at + length s → n ≡ next + length t → n ≤ length w
    → take n (put_at next t (put_at at s w)) ≡ take at w ++ (s ++ t)
take-put_two at next s t w n second e fits =
    take-put_at next t (put_at at s w) n e (omega (arith, length-put_at at s w (omega arith)))
    ∙ ap (λ (x : List ℕ). x ++ t) (take-put_at at s w next second (omega arith))
    ∙ append_assoc (take at w) s t

pub ruleset covered = (put_at-put_at)
