-- A slice as chunks of n, in order.
use Rattle.hash_words.proofs.Common.{◌≡◌, ℕ, zero, suc, ◌+◌, ◌*◌, ◌<◌, ◌≤◌, List, [], ◌++◌, length, get_or, take, drop, refl, sym, ap, ◌∙◌, arith, take-add, drop-append-le, take-append-le, nil_from_length, first_chunks, drop-drop, length-drop}

pub get_or-first_chunks : {X : Type 0} (n k i : ℕ) (xs : List X) (d : List X) → i < k
    → get_or (first_chunks n k xs) i d ≡ take n (drop (i * n) xs)
get_or-first_chunks n zero i xs d h = absurd (omega arith)
get_or-first_chunks n (suc k) zero xs d h = let e : 0 * n ≡ 0 = omega arith in rw e refl
get_or-first_chunks n (suc k) (suc i) xs d h =
    let e : n + i * n ≡ suc i * n = omega arith in
    get_or-first_chunks n k i (drop n xs) d (omega arith) ∙ ap (λ ys. take n ys) (drop-drop (i * n) n xs ∙ ap (λ m. drop m xs) e)

-- the chunks up to i, and then chunk i
pub take_chunk : {X : Type 0} (n k i : ℕ) (xs : List X) (d : List X) → i < k
    → take (i * n) xs ++ get_or (first_chunks n k xs) i d ≡ take ((i + 1) * n) xs
take_chunk n k i xs d h =
    let e : (i + 1) * n ≡ i * n + n = omega arith in
    rw (get_or-first_chunks n k i xs d h, e) (sym (take-add (i * n) n xs))

-- the chunks of two texts, the first of which is i whole chunks
pub first_chunks-append : {X : Type 0} (n i j k : ℕ) (a b : List X) → k ≡ i + j → length a ≡ i * n
    → first_chunks n k (a ++ b) ≡ first_chunks n i a ++ first_chunks n j b
first_chunks-append n zero j k a b s e =
    let none : a ≡ [] = nil_from_length a (omega arith) in
    let same : k ≡ j = omega arith in
    rw (none, same) refl
first_chunks-append n (suc i) j zero a b s e = absurd (omega arith)
first_chunks-append n (suc i) j (suc k) a b s e =
    let fits : n ≤ length a = omega arith in
    rw (
      take-append-le n a b fits,
      drop-append-le n a b fits,
      first_chunks-append n i j k (drop n a) b (omega arith)
          (omega (arith, length-drop n a)),
    )
    refl
