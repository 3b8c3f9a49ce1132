-- Zeros at the end of a short text show in its four words: no two states of four words end alike.
use Rattle.hash_jenkins.proofs.Common.{◌≡◌, ◌+◌, ◌-◌, ◌*◌, ◌%◌, ◌^◌, ◌<◌, ◌∷◌, ◌++◌, ◌∙◌, ℕ, nat_lt, true, List, [], length, replicate, fold, slice_index, refl, sym, ap, arith, nat_tests, common_steps, zero_filled, add_chunk, pieces, le_words}
use Rattle.std.proofs.Common.{lit<, get_or, length-set, get_or-set_same}
use Rattle.hash_words.specs.Words.{add_at}
use Rattle.hash_rounds.proofs.RoundLemmas.{AreFourWords, words-listed, short_mix-steps, short_end-steps, stepped-AreFourWords}
use Rattle.hash_rounds.proofs.StepLemmas.{of_steps}
use Rattle.hash_words.proofs.UndoLemmas.{told}
use Rattle.hash_words.proofs.WordLemmas.{no_words}
use Rattle.hash_jenkins.specs.Spooky.{short_start, spooky_v1}
unfoldable use Rattle.hash_jenkins.specs.Spooky.{chunks_from}
use Rattle.hash_jenkins.specs.Zeros.{AddsZeros, HaveOtherWords}
use Rattle.hash_rounds.specs.Rounds as rounds
use Rattle.hash_jenkins.proofs.FilledLemmas.{zero_filled-longer}

pub add_at-AreFourWords : (h : List ℕ) (i x : ℕ) → AreFourWords h → AreFourWords (add_at h i x)
add_at-AreFourWords h i x w =
    (length-set h i ((slice_index h i + x) % 2 ^ 64) ∙ w.0, λ j. let old = w.1 j in grind (arith, common_steps))

abbrev pub start_of : ℕ → ℕ → List ℕ
start_of seed1 seed2 = seed1 ∷ seed2 ∷ 0xdeadbeefdeadbeef ∷ 0xdeadbeefdeadbeef ∷ []

pub start-AreFourWords : (seed1 seed2 : ℕ) → seed1 < 2 ^ 64 → seed2 < 2 ^ 64
    → AreFourWords (start_of seed1 seed2)
start-AreFourWords seed1 seed2 s1 s2 = words-listed 64 (start_of seed1 seed2) (s1, (s2, (lit< tt, (lit< tt, tt))))

-- two lengths are told apart in a word
lengths_apart : (s a b : ℕ) → a < 192 → b < 192 → (s + a * 2 ^ 56) % 2 ^ 64 ≡ (s + b * 2 ^ 56) % 2 ^ 64 → a ≡ b
lengths_apart s a b la lb e = omega arith

add_chunk-AreFourWords : (h w : List ℕ) → AreFourWords h → AreFourWords (add_chunk h w)
add_chunk-AreFourWords h w a =
    let before = add_at-AreFourWords _ 3 (slice_index w 1) (add_at-AreFourWords h 2 (slice_index w 0) a) in
    add_at-AreFourWords _ 1 _ (add_at-AreFourWords _ 0 _ (stepped-AreFourWords _ before rounds.short_mix_steps short_mix-steps))

pub fold-AreFourWords : (g : List ℕ → List ℕ → List ℕ) → ((h c : List ℕ) → AreFourWords h → AreFourWords (g h c))
    → (cs : List (List ℕ)) (h : List ℕ) → AreFourWords h → AreFourWords (fold g h cs)
fold-AreFourWords g kept [] h h_in = h_in
fold-AreFourWords g kept (c ∷ cs) h h_in = fold-AreFourWords g kept cs (g h c) (kept h c h_in)

pub short_start-AreFourWords : (seed1 seed2 : ℕ) (text : List ℕ) → seed1 < 2 ^ 64 → seed2 < 2 ^ 64
    → AreFourWords (short_start seed1 seed2 text)
unfolding chunks_from
short_start-AreFourWords seed1 seed2 text s1 s2 =
    fold-AreFourWords (λ h c. add_chunk h (le_words c)) (λ h c. add_chunk-AreFourWords h (le_words c)) (pieces 32 (zero_filled 192 text))
    (start_of seed1 seed2) (start-AreFourWords seed1 seed2 s1 s2)

module _ (x y : List ℕ) (h : AddsZeros x y) (seed1 seed2 : ℕ) where
  -- zeros that are written out, or filled in
  pub start-same : short_start seed1 seed2 y ≡ short_start seed1 seed2 x
  start-same =
      let n = 192 - length y in
      let whole : length y + n ≡ 192 = omega arith in
      ap (λ (z : List ℕ). chunks_from (start_of seed1 seed2) (z ++ replicate n 0)) h.2
      ∙ ap (chunks_from (start_of seed1 seed2)) (sym (zero_filled-longer (length y) n x (omega arith)) ∙ ap (λ m. zero_filled m x) whole)

  pub same_by_version_1 : spooky_v1 seed1 seed2 x ≡ spooky_v1 seed1 seed2 y
  same_by_version_1 =
      let x_short : nat_lt (length x) 192 ≡ true = grind (arith, nat_tests) in
      let y_short : nat_lt (length y) 192 ≡ true = grind (arith, nat_tests) in
      rw (x_short, y_short, start-same) refl

pub other_words : (x y : List ℕ) → AddsZeros x y → HaveOtherWords x y
other_words x y h = λ seed1 seed2 s1 s2 same.
    let s = short_start seed1 seed2 x in
    let w = short_start-AreFourWords seed1 seed2 x s1 s2 in
    let more = start-same x y h seed1 seed2 in
    let one : add_at s 3 (length x * 2 ^ 56) ≡ add_at s 3 (length y * 2 ^ 56) =
    told (of_steps 64 4 0 [] (no_words 64) rounds.short_end_steps short_end-steps) _ _ (add_at-AreFourWords s 3 _ w)
    (add_at-AreFourWords s 3 _ w) (rw more at same) in
    let fits : 3 < length s = omega (arith, w.0) in
    let word = rw (get_or-set_same, get_or-set_same) at (ap (λ (k : List ℕ). get_or k 3 0) one) in
    absurd (omega (arith, lengths_apart (slice_index s 3) (length x) (length y) (omega arith) (omega arith) word))
