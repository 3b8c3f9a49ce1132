-- lookup3's blocks of twelve bytes: no two pieces that differ only in one lead to the same three words, one block leads to three
-- words, and how many lead to an answer.
use Rattle.hash_theorems.proofs.JenkinsCommon.{◌≡◌, ◌≢◌, ◌%◌, ◌*◌, ◌+◌, ◌/◌, ◌<◌, ◌^◌, ◌∙◌, ◌∷◌, List, [], ap, arith, drop, fold, length, map, refl, slice_index, sym, take, w32, ℕ, ap₂, flat_map, first_chunks, to_le_bytes, drop_all, take_all, no_words, IsPiece, part-same, rest-same, texts-same, of_four_bytes, AreSteps, Step, Undoes, ◌▷◌, likewise, told, solved, of_steps, words-listed, IsText, ExactlyTexts, DifferInOne, zero_filled, add_block, lookup3_answer, lookup3_from, lookup3_piece, lookup3_words, mix_block, start, third_word, drop_eight, le, pieces, apply, undo, last_block, differences, common_steps, nat_tests}
use Rattle.hash_rounds.specs.Rounds as rounds
use Rattle.hash_jenkins.specs.Lookup3Laws.{AreThreeWords, lookup3_final-steps, lookup3_mix-steps, lookup3_words-AreThreeWords, start-AreThreeWords}
use Rattle.hash_jenkins.proofs.FilledLemmas.{filled-piece, filled-same}
use Rattle.hash_theorems.proofs.Sums.{add-nothing, of_sums_3, of_words, sums_3}

-- ---- the words of a block

abbrev pub three : List ℕ → List ℕ
three c = map le (first_chunks 4 3 c)

of_three : Undoes (IsPiece 12) AreThreeWords three (flat_map (to_le_bytes w32))
of_three = of_words 4 32 (to_le_bytes w32) of_four_bytes 3

add_block-is : (s c : List ℕ) → add_block s c ≡ apply 32 sums_3 (three c) s
unfolding apply
add_block-is s c = rw (drop_eight c) refl

-- a round undone
abbrev unround : List Step → List ℕ → List ℕ
unround ts = apply 32 (undo 32 ts) []

-- a block is added, and a round is made
module _ (ts : List Step) (are : AreSteps 32 3 0 ts) where
  abbrev rounded : List ℕ → List ℕ → List ℕ
  rounded s c = apply 32 ts [] (add_block s c)

  of_round : Undoes AreThreeWords AreThreeWords (apply 32 ts []) (unround ts)
  of_round = of_steps 32 3 0 [] (no_words 32) ts are

  -- the words before it are undone by the block, and the block by the words before it
  of_state : (c : List ℕ) → IsPiece 12 c
      → Undoes AreThreeWords AreThreeWords (λ s. rounded s c) (λ t. apply 32 (undo 32 sums_3) (three c) (unround ts t))
  of_state c is =
      likewise (λ s _. ap (apply 32 ts []) (add_block-is s c)) (λ _ _. refl)
      (of_steps 32 3 3 (three c) (of_three.there_in c is).1 sums_3 refl ▷ of_round)

  of_block : (s : List ℕ) → AreThreeWords s
      → Undoes (IsPiece 12) AreThreeWords (rounded s) (λ t. flat_map (to_le_bytes w32) (differences 32 3 s (unround ts t)))
  of_block s s_in = likewise (λ c _. ap (apply 32 ts []) (add_block-is s c)) (λ _ _. refl) (of_three ▷ of_sums_3 s s_in ▷ of_round)

-- ---- a whole piece

-- the words from what stands before the last round
abbrev end : List ℕ → List ℕ → List ℕ
end s r = apply 32 rounds.lookup3_final_steps [] (add_block s (zero_filled 12 r))

words-end : (pc pb : ℕ) (x : List ℕ) → lookup3_words pc pb x
    ≡ end (fold mix_block (start pc pb (length x)) (first_chunks 12 (length x / 12) x)) (drop (length x / 12 * 12) x)
unfolding last_block pieces
words-end pc pb x = refl

pub lookup3_words-differ : (pc pb : ℕ) (x y : List ℕ) → IsText x → IsText y → DifferInOne (λ i. i / 12) x y
    → lookup3_words pc pb x ≢ lookup3_words pc pb y
lookup3_words-differ pc pb x y xs ys differ = λ same.
    let k = length x / 12 in
    let g = differ.one.0 in
    let led : end (fold mix_block (start pc pb (length x)) (first_chunks 12 k x)) (drop (k * 12) x)
    ≡ end (fold mix_block (start pc pb (length x)) (first_chunks 12 k y)) (drop (k * 12) y) =
    sym (words-end pc pb x) ∙ same ∙ words-end pc pb y
    ∙ ap (λ n. end (fold mix_block (start pc pb n) (first_chunks 12 (n / 12) y)) (drop (n / 12 * 12) y)) (sym differ.same_length) in
    differ.different (texts-same AreThreeWords (IsPiece 12) mix_block
    (λ s c s_in c_is. (of_state rounds.lookup3_mix_steps lookup3_mix-steps c c_is).there_in s s_in)
    (λ s t c s_in t_in c_is. told (of_state rounds.lookup3_mix_steps lookup3_mix-steps c c_is) s t s_in t_in) (λ _ _. Unit {0})
    (λ s c e s_in c_is e_is _. told (of_block rounds.lookup3_mix_steps lookup3_mix-steps s s_in) c e c_is e_is)
    12 end (λ c is. is)
    (λ s t r s_in t_in text few. told (of_state rounds.lookup3_final_steps lookup3_final-steps (zero_filled 12 r)
    (filled-piece 12 r text (omega (arith, few)))) s t s_in t_in)
    (λ s q r s_in qs rs few long e. filled-same 12 q r long (told (of_block rounds.lookup3_final_steps lookup3_final-steps s s_in) _ _
    (filled-piece 12 q qs (omega (arith, few))) (filled-piece 12 r rs (omega (arith, few, long))) e))
    k g x y (start pc pb (length x)) (start-AreThreeWords pc pb (length x)) xs ys differ.same_length (omega arith) (omega arith)
    (λ i i_in other. part-same 12 (i * 12) x y differ.same_length
    (λ j j_in. differ.one.1 (i * 12 + j) (λ (e : (i * 12 + j) / 12 ≡ g). other (omega (arith, e, j_in)))))
    (λ g_in. rest-same (k * 12) x y differ.same_length (λ j. differ.one.1 (k * 12 + j)
    (λ (e : (k * 12 + j) / 12 ≡ g). omega (arith, e, g_in))))
    (λ _. tt) led)

-- ---- a block alone

-- what is left behind a block adds nothing
none_left-adds : (s : List ℕ) → AreThreeWords s → add_block s (zero_filled 12 []) ≡ s
unfolding le
none_left-adds s s_in =
    let nothing = λ (i : ℕ). add-nothing 32 i s (s_in.1 i) in
    rw (nothing 0, nothing 1, nothing 2) refl

module _ (pc pb : ℕ) where
  abbrev first : List ℕ
  first = start pc pb 12

  -- the block that leads to three words: the two mixes undone, and what is then to be added
  abbrev pub block_to : List ℕ → List ℕ
  block_to words =
      let before = unround rounds.lookup3_mix_steps (unround rounds.lookup3_final_steps words) in
      flat_map (to_le_bytes w32) (differences 32 3 first before)

  of_first : Undoes (IsPiece 12) AreThreeWords (mix_block first)
      (λ t. flat_map (to_le_bytes w32) (differences 32 3 first (unround rounds.lookup3_mix_steps t)))
  of_first = of_block rounds.lookup3_mix_steps lookup3_mix-steps first (start-AreThreeWords pc pb 12)

  words-block : (block : List ℕ) → IsPiece 12 block → lookup3_words pc pb block ≡ apply 32 rounds.lookup3_final_steps [] (mix_block first block)
  unfolding last_block pieces
  words-block block is =
      let whole : take 12 block ≡ block = take_all 12 block (omega (arith, is.1)) in
      let none : drop 12 block ≡ [] = drop_all 12 block (omega (arith, is.1)) in
      rw (is.1, whole, none) (ap (apply 32 rounds.lookup3_final_steps []) (none_left-adds (mix_block first block) (of_first.there_in block is)))

  of_last : Undoes (IsPiece 12) AreThreeWords (lookup3_words pc pb) block_to
  of_last = likewise words-block (λ _ _. refl) (of_first ▷ of_round rounds.lookup3_final_steps lookup3_final-steps)

  -- ---- the answer, and the third word

  -- the words a, b and c
  abbrev pub wanted : ℕ → ℕ → List ℕ
  wanted answer third = third ∷ answer / 2 ^ 32 ∷ answer % 2 ^ 32 ∷ []

  from-block : (block : List ℕ) → length block ≡ 12 → lookup3_from (pc, pb) block ≡ lookup3_piece pc pb block
  from-block [] len = absurd (omega arith)
  from-block (byte ∷ block) len = refl

  wanted-are : (words : List ℕ) → AreThreeWords words
      → words ≡ wanted (slice_index words 2 + 2 ^ 32 * slice_index words 1) (slice_index words 0)
  wanted-are (a ∷ b ∷ c ∷ []) words_in =
      let low : c < 2 ^ 32 = words_in.1 2 in
      grind (arith, nat_tests, common_steps)
  wanted-are words words_in = absurd (omega (arith, words_in.0))

  module _ (answer third : ℕ) (answer_in : answer < 2 ^ 64) (third_in : third < 2 ^ 32) where
    abbrev block : List ℕ
    block = block_to (wanted answer third)

    wanted_in : AreThreeWords (wanted answer third)
    wanted_in = words-listed 32 (wanted answer third) (third_in, (omega arith, (omega arith, tt)))

    there : lookup3_words pc pb block ≡ wanted answer third
    there = of_last.there (wanted answer third) wanted_in

    pub block-leads : lookup3_answer (lookup3_from (pc, pb) block) ≡ answer
    block-leads = grind (arith, nat_tests, common_steps, from-block, there)

    pub block-third : third_word (pc, pb) block ≡ third
    block-third = ap (λ (words : List ℕ). slice_index words 0) there

    pub block-alone : (other : List ℕ) → IsText other → length other ≡ 12 → lookup3_answer (lookup3_from (pc, pb) other) ≡ answer
        → third_word (pc, pb) other ≡ third → other ≡ block
    block-alone other text twelve led is =
        let answered = sym (ap lookup3_answer (from-block other twelve)) ∙ led in
        solved of_last other (wanted answer third) (text, twelve)
        (wanted-are (lookup3_words pc pb other) (lookup3_words-AreThreeWords pc pb other) ∙ ap₂ wanted answered is)

  -- a block for each third word
  pub blocks-even : (answer : ℕ) → answer < 2 ^ 64
      → ExactlyTexts (2 ^ 32) 12 (λ block. lookup3_answer (lookup3_from (pc, pb) block) ≡ answer)
  blocks-even answer answer_in = record {
    value = λ third. block_to (wanted answer third);
    number = third_word (pc, pb);
    value_has = λ third third_in. (
      (of_last.back_in (wanted answer third) (wanted_in answer third answer_in third_in)).0,
      refl,
      block-leads answer third answer_in third_in,
    );
    number_below = λ block known. (lookup3_words-AreThreeWords pc pb block).1 0;
    number_of_value = λ third third_in. block-third answer third answer_in third_in;
    value_of_number = λ block known.
        sym (block-alone answer (third_word (pc, pb) block) answer_in ((lookup3_words-AreThreeWords pc pb block).1 0) block known.0 known.1
        known.2 refl);
  }
