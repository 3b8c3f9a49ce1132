-- Laws of a piece's words, which the impls of the traits cite; they may name no lemma of this crate's own proofs.
use Rattle.std.proofs.Common.{ℕ, zero, suc, refl, sym, ◌+◌, ◌*◌, ◌≡◌, ◌/◌, ◌^◌, ◌<◌, ◌≤◌, List, [], length, take, drop, map, get_or, ap, ◌∙◌, arith, lit<}
use Rattle.std.specs.Prelude.{All}
use Rattle.std.specs.Simd.{first_chunks}
use Rattle.std.proofs.Math.Nat.{pow-le-pow_right}
use Rattle.std.proofs.Math.Path.{ap₂}
use Rattle.std.proofs.lemmas.List.{length-append, length-drop, length-take}
use Rattle.std.proofs.lemmas.List.Elements.{All-nil, All-cons, All-take, All-drop, All-append}
use Rattle.hash_words.specs.Words.{le}
use Rattle.hash_words.specs.Pieces.{pieces}
use Rattle.hash_words.proofs.PieceLemmas.{le-lt}
use Rattle.hash_fx.specs.Fx.{fx32_step, fx64_step}
use Rattle.hash_laws.specs.Text.{IsText}
use Rattle.hash_laws.specs.TextLaws.{IsByte}
use Rattle.hash_laws.specs.RecurrenceLaws.{recurrence-nil}
use Rattle.hash_fx.specs.Fx.{fx32, fx64, words32, words64}

abbrev pub IsWord : ℕ → ℕ → Type 0
IsWord w v = v < 2 ^ w

-- the words of the whole pieces of n bytes
chunk_words : (w n k : ℕ) (text : List ℕ) → 256 ^ n ≤ 2 ^ w → IsText text → All (IsWord w) (map le (first_chunks n k text))
chunk_words w n zero text fits bytes = All-nil (IsWord w)
chunk_words w n (suc k) text fits bytes =
    let first = take n text in
    let short : length first ≤ n = omega (arith, length-take n text) in
    let below : le first < 2 ^ w = omega (
      arith,
      fits,
      le-lt first (All-take IsByte n text bytes),
      pow-le-pow_right {n = 256}
          (lit< tt) short,
    ) in
    All-cons (IsWord w) (le first) (map le (first_chunks n k (drop n text))) below
    (chunk_words w n k (drop n text) fits (All-drop IsByte n text bytes))

whole_words : (w n : ℕ) (text : List ℕ) → 256 ^ n ≤ 2 ^ w → IsText text → All (IsWord w) (map le (pieces n text))
unfolding pieces
whole_words w n text = chunk_words w n (length text / n) text

single_words : (w : ℕ) (text : List ℕ) → 256 ≤ 2 ^ w → IsText text → All (IsWord w) text
single_words w text fits bytes = λ k d below. let h : get_or text k d < 256 = bytes k d below in omega (arith, h, fits)

words_fit : (w : ℕ) (piece : List ℕ) → 2 ^ 32 ≤ 2 ^ w → IsText piece → All (IsWord w) (words32 piece)
words_fit w piece fits bytes =
    All-append (IsWord w) _ _ (whole_words w 4 piece (omega (arith, fits)) bytes)
    (single_words w _ (omega (arith, fits)) (All-drop IsByte _ piece bytes))

pub words32-fit : (piece : List ℕ) → IsText piece → All (IsWord 32) (words32 piece)
words32-fit piece bytes = words_fit 32 piece (omega arith) bytes

pub words64-fit : (piece : List ℕ) → IsText piece → All (IsWord 64) (words64 piece)
words64-fit piece bytes =
    All-append (IsWord 64) _ _ (whole_words 64 8 piece (omega arith) bytes)
    (words_fit 64 _ (omega arith) (All-drop IsByte _ piece bytes))

-- no bytes are no words
pub words32-nil : words32 [] ≡ []
unfolding pieces
words32-nil = refl

pub words64-nil : words64 [] ≡ []
unfolding pieces
words64-nil = refl

-- a piece of no bytes changes nothing
pub fx32_nothing : (s : ℕ) → fx32 s (words32 []) ≡ s
fx32_nothing s = ap (fx32 s) words32-nil ∙ recurrence-nil fx32_step s

pub fx64_nothing : (s : ℕ) → fx64 s (words64 []) ≡ s
fx64_nothing s = ap (fx64 s) words64-nil ∙ recurrence-nil fx64_step s

-- pieces of one length have as many words
chunks_length : (n k : ℕ) (x y : List ℕ) → length (map le (first_chunks n k x)) ≡ length (map le (first_chunks n k y))
chunks_length n zero x y = refl
chunks_length n (suc k) x y = ap suc (chunks_length n k (drop n x) (drop n y))

-- and as many bytes behind them
rest_length : (n : ℕ) (x y : List ℕ) → length x ≡ length y
    → (length y / n ≡ length x / n) × (length (drop (length x / n * n) x) ≡ length (drop (length x / n * n) y))
rest_length n x y len =
    let k = length x / n in
    (ap (λ m. m / n) (sym len), omega (arith, length-drop (k * n) x, length-drop (k * n) y, len))

pub words32-length : (x y : List ℕ) → length x ≡ length y → length (words32 x) ≡ length (words32 y)
unfolding pieces
words32-length x y len =
    let k = length x / 4 in
    let rest = rest_length 4 x y len in
    rw rest.0 (length-append (map le (first_chunks 4 k x)) (drop (k * 4) x) ∙ ap₂ (λ a b. a + b) (chunks_length 4 k x y) rest.1
    ∙ sym (length-append (map le (first_chunks 4 k y)) (drop (k * 4) y)))

pub words64-length : (x y : List ℕ) → length x ≡ length y → length (words64 x) ≡ length (words64 y)
unfolding pieces
words64-length x y len =
    let k = length x / 8 in
    let rest = rest_length 8 x y len in
    rw rest.0 (length-append (map le (first_chunks 8 k x)) (words32 (drop (k * 8) x))
    ∙ ap₂ (λ a b. a + b) (chunks_length 8 k x y) (words32-length _ _ rest.1)
    ∙ sym (length-append (map le (first_chunks 8 k y)) (words32 (drop (k * 8) y))))
