-- Pieces that are one byte apart have words that are one word apart.
use Rattle.hash_fx.proofs.Common.{◌≡◌, ℕ, ◌+◌, ◌*◌, ◌/◌, List, ◌∷◌, ◌++◌, length, take, drop, map, arith, refl, sym, ap, ◌∙◌, subst, first_chunks, words32, words64, le, pieces}
use Rattle.std.proofs.Common.{zero, suc, inl, inr, min, drop-drop, length-take, length-drop, take-append-drop}
use Rattle.std.proofs.lemmas.List.Elements.{All-take, All-drop}
use Rattle.hash_words.proofs.PieceLemmas.{le-same}
use Rattle.hash_laws.specs.Text.{IsText}
use Rattle.hash_laws.specs.TextLaws.{IsByte}
use Rattle.hash_fx.proofs.OneApart.{OneApart, OneApart-split, OneApart-itself}

itself : {x y : List ℕ} → x ≡ y → OneApart x y → ⊥
itself {x} same one = OneApart-itself x (subst (OneApart x) (sym same) one)

-- words that tell texts apart which are one byte apart
abbrev pub TellApart : (List ℕ → List ℕ) → Type 0
TellApart words = (x y : List ℕ) → length x ≡ length y → IsText x → IsText y → OneApart x y → OneApart (words x) (words y)

-- k words of n bytes each, and then other words
abbrev with_rest : (List ℕ → List ℕ) → ℕ → ℕ → List ℕ → List ℕ
with_rest rest n zero x = rest x
with_rest rest n (suc k) x = le (take n x) ∷ with_rest rest n k (drop n x)

with_rest-is : (rest : List ℕ → List ℕ) (n k : ℕ) (x : List ℕ) → map le (first_chunks n k x) ++ rest (drop (k * n) x) ≡ with_rest rest n k x
with_rest-is rest n zero x = let none : 0 * n ≡ 0 = omega arith in rw none refl
with_rest-is rest n (suc k) x =
    let places : suc k * n ≡ n + k * n = omega arith in
    ap (λ t. le (take n x) ∷ (map le (first_chunks n k (drop n x)) ++ rest t)) (ap (λ m. drop m x) places ∙ sym (drop-drop (k * n) n x))
    ∙ ap (λ t. le (take n x) ∷ t) (with_rest-is rest n k (drop n x))

with_rest-apart : (rest : List ℕ → List ℕ) → TellApart rest → (n k : ℕ) → TellApart (with_rest rest n k)
with_rest-apart rest tells n zero x y len xs ys one = tells x y len xs ys one
with_rest-apart rest tells n (suc k) x y len xs ys one =
    let split_x = take-append-drop n x in
    let split_y = take-append-drop n y in
    let parts : OneApart (take n x ++ drop n x) (take n y ++ drop n y) = rw (split_x, split_y) one in
    let first : length (take n x) ≡ length (take n y) = length-take n x ∙ ap (λ m. min n m) len ∙ sym (length-take n y) in
    let later : length (drop n x) ≡ length (drop n y) = omega (arith, length-drop n x, length-drop n y, len) in
    elim (OneApart-split (take n x) (take n y) (drop n x) (drop n y) first parts) [
      | inl front ↦
          inl (
            λ same. itself (le-same (take n x) (take n y) (All-take IsByte n x xs) (All-take IsByte n y ys) first same) front.0,
            ap
                (with_rest rest n k) front.1,
          )
      | inr back ↦
          inr (
            ap le back.0,
            with_rest-apart rest tells n k (drop n x) (drop n y) later (All-drop IsByte n x xs)
                (All-drop IsByte n y ys) back.1,
          )
    ]

pub words32-apart : TellApart words32
unfolding pieces
words32-apart x y len xs ys one =
    let count : length y / 4 ≡ length x / 4 = ap (λ m. m / 4) (sym len) in
    let here = with_rest-apart (λ t. t) (λ s t _ _ _ apart. apart) 4 (length x / 4) x y len xs ys one in
    rw (with_rest-is (λ t. t) 4 (length x / 4) x, count, with_rest-is (λ t. t) 4 (length x / 4) y) here

pub words64-apart : TellApart words64
unfolding pieces
words64-apart x y len xs ys one =
    let count : length y / 8 ≡ length x / 8 = ap (λ m. m / 8) (sym len) in
    let here = with_rest-apart words32 words32-apart 8 (length x / 8) x y len xs ys one in
    rw (with_rest-is words32 8 (length x / 8) x, count, with_rest-is words32 8 (length x / 8) y) here
