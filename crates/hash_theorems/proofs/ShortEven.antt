-- The one stretch that leads SpookyHash below 192 bytes to four words, and how many lead to a hash.
use Rattle.hash_theorems.proofs.JenkinsCommon.{◌≡◌, ◌+◌, ◌-◌, ◌*◌, ◌/◌, ◌%◌, ◌^◌, ◌<◌, ◌∷◌, ◌++◌, ◌∙◌, ℕ, List, [], length, slice_index, take, replicate, refl, sym, ap, ap₂, arith, length-append, nat_tests, append_assoc, drop-replicate, mod_below, pow_pos, IsPiece, Undoes, ◌▷◌, likewise, told, solved, short_mix, AreFourWords, words-listed, short_end-steps, stepped, ExactlyTexts, IsText, zero_filled, first_two, short_words, spooky, chunks_from, missing, stretch_of, common_steps, rules}
use Rattle.hash_words.specs.Put.{put_at}
use Rattle.hash_rounds.specs.Rounds as rounds
use Rattle.hash_jenkins.proofs.FilledLemmas.{filled-piece, take-zero_filled}
use Rattle.hash_theorems.proofs.ShortStretches.{ended, of_ended, add_stretch, of_mix, of_stretch, of_stretches, chunks-are, none, none-added, pieces-append, pieces-one, pieces-then, seeded, seeded-in, short_start-is, stretches, stretches-in, unmix}
use Rattle.hash_jenkins.proofs.ZeroLemmas.{add_at-AreFourWords, short_start-AreFourWords, start_of, start-AreFourWords}

-- ---- a stretch between a front and a back

module _ (seed1 seed2 : ℕ) (front back : List ℕ) (s1 : seed1 < 2 ^ 64) (s2 : seed2 < 2 ^ 64) (place : length front % 32 ≡ 16)
    (few : length front + length back < 160) where
  abbrev text_of : List ℕ → List ℕ
  text_of stretch = front ++ (stretch ++ back)

  text_of-length : (stretch : List ℕ) → length stretch ≡ 32 → length (text_of stretch) ≡ length front + 32 + length back
  text_of-length stretch len = omega (arith, len, length-append front (stretch ++ back), length-append stretch back)

  -- what leads to the four words before the stretch by a mix, and what is behind it
  abbrev pub from : List ℕ
  from = stretches (seeded seed1 seed2) (none ++ front)

  abbrev pub behind : List ℕ
  behind = zero_filled (176 - length front) back

  from-in : AreFourWords from
  from-in = stretches-in (seeded seed1 seed2) (none ++ front) (seeded-in seed1 seed2 s1 s2)

  -- the words of the text from those behind the stretch
  abbrev pub led : List ℕ → List ℕ
  led k = ended (length front + 32 + length back) (stretches k behind)

  words-are : (stretch : List ℕ) → length stretch ≡ 32 → short_words seed1 seed2 (text_of stretch) ≡ led (add_stretch from stretch)
  words-are stretch len =
      let u = seeded seed1 seed2 in
      let text_len = text_of-length stretch len in
      let count : 208 - length (text_of stretch) ≡ 176 - length front - length back = omega (arith, text_len) in
      let places : none ++ zero_filled 208 (text_of stretch) ≡ (none ++ front) ++ (stretch ++ behind) =
      ap (λ n. none ++ (text_of stretch ++ replicate n 0)) count ∙ simp append_assoc in
      ap₂ ended text_len
      (short_start-is seed1 seed2 (text_of stretch) s1 s2 (omega (arith, text_len)) ∙ ap (stretches u) places
      ∙ pieces-append add_stretch u (none ++ front) (stretch ++ behind) (omega (arith, place, length-append none front))
      ∙ pieces-then add_stretch from stretch behind len)

  -- where four words lead to the end, what is missing to them is the stretch
  leads : (to words : List ℕ) → AreFourWords to → led to ≡ words
      → short_words seed1 seed2 (text_of (stretch_of (missing (short_mix from) to))) ≡ words
  leads to words to_in is =
      words-are (stretch_of (missing (short_mix from) to)) refl ∙ ap led ((of_stretch from from-in).there to to_in) ∙ is

  -- the stretch, and the words of the text
  framed : IsText back → (g : List ℕ → List ℕ) × Undoes (IsPiece 32) AreFourWords (λ stretch. short_words seed1 seed2 (text_of stretch)) g
  framed back_text =
      let behind-text = (filled-piece (176 - length front) back back_text (omega arith)).0 in (
        _,
        likewise (λ stretch is. words-are stretch is.1) (λ _ _. refl)
            (of_stretch from from-in ▷ of_stretches behind behind-text ▷ of_ended (length front + 32 + length back) (omega arith)),
      )

  -- no other stretch leads there
  pub alone : IsText back → (x y : List ℕ) → IsPiece 32 x → IsPiece 32 y
      → short_words seed1 seed2 (text_of x) ≡ short_words seed1 seed2 (text_of y) → x ≡ y
  alone back_text = told (framed back_text).1

  -- ---- what a call finds

  got-is : chunks_from (start_of seed1 seed2) (take (length front + 16) (zero_filled 192 front)) ≡ short_mix from
  got-is =
      let n = length front in
      let u = seeded seed1 seed2 in
      let count : n + 16 + 16 - n ≡ 32 = omega arith in
      ap (chunks_from (start_of seed1 seed2)) (take-zero_filled (n + 16) 192 front (omega arith) (omega arith))
      ∙ chunks-are (start_of seed1 seed2) (start-AreFourWords seed1 seed2 s1 s2) (n + 16) front (omega arith) (omega arith)
      ∙ ap (λ k. stretches u (none ++ (front ++ replicate k 0))) count
      ∙ pieces-append add_stretch u (none ++ front) (none ++ none) (omega (arith, place, length-append none front))
      ∙ pieces-one add_stretch from (none ++ none) refl ∙ none-added from from-in

  to-is : (to : List ℕ) → AreFourWords to
      → chunks_from to (take (176 - length front) (put_at 16 back (replicate 192 0))) ≡ stretches to behind
  to-is to to_in =
      let n = 176 - length front in
      let all : 192 - (16 + length back) ≡ 192 - length (none ++ back) = omega arith in
      let count : n + 16 - length (none ++ back) ≡ n - length back = omega arith in
      ap (λ (z : List ℕ). chunks_from to (take n (none ++ (back ++ z))))
      (drop-replicate {X = ℕ} (16 + length back) 192 0 ∙ ap (λ k. replicate k 0) all)
      ∙ ap (chunks_from to) (take-zero_filled n 192 (none ++ back) (omega arith) (omega arith))
      ∙ chunks-are to to_in n (none ++ back) (omega arith) (omega arith)
      ∙ ap (λ k. stretches (unmix to) ((none ++ none) ++ (back ++ replicate k 0))) count
      ∙ pieces-then add_stretch (unmix to) (none ++ none) behind refl
      ∙ ap (λ (k : List ℕ). stretches k behind) (none-added (unmix to) (of_mix.back_in to to_in) ∙ of_mix.there to to_in)

  pub found : (got end to words : List ℕ) → got ≡ chunks_from (start_of seed1 seed2) (take (length front + 16) (zero_filled 192 front))
      → ended (length front + 32 + length back) end ≡ words
      → chunks_from to (take (176 - length front) (put_at 16 back (replicate 192 0))) ≡ end → AreFourWords to
      → short_words seed1 seed2 (text_of (stretch_of (missing got to))) ≡ words
  found got end to words before after there to_in = search (rules, got-is, leads, to-is)

  -- ---- the hash, and what is left out

  spooky-is : (stretch : List ℕ) → length stretch ≡ 32
      → spooky seed1 seed2 (text_of stretch) ≡ first_two (short_words seed1 seed2 (text_of stretch))
  spooky-is stretch len = grind (arith, nat_tests, common_steps, text_of-length)

  module _ (back_text : IsText back) (hash : ℕ × ℕ) (first_in : hash.0 < 2 ^ 64) (second_in : hash.1 < 2 ^ 64) where
    abbrev wanted : ℕ → List ℕ
    wanted i = hash.0 ∷ hash.1 ∷ i % 2 ^ 64 ∷ i / 2 ^ 64 % 2 ^ 64 ∷ []

    below : (n : ℕ) → n % 2 ^ 64 < 2 ^ 64
    below n = mod_below n (2 ^ 64) (pow_pos 64)

    wanted_in : (i : ℕ) → AreFourWords (wanted i)
    wanted_in i = words-listed 64 (wanted i) (first_in, (second_in, (below i, (below (i / 2 ^ 64), tt))))

    -- the third word and the fourth as one number
    abbrev left_out : List ℕ → ℕ
    left_out words = slice_index words 2 + 2 ^ 64 * slice_index words 3

    words-in : (stretch : List ℕ) → AreFourWords (short_words seed1 seed2 (text_of stretch))
    words-in stretch = stepped 64 4 0 [] rounds.short_end_steps short_end-steps _
        (add_at-AreFourWords _ 3 (length (text_of stretch) * 2 ^ 56) (short_start-AreFourWords seed1 seed2 (text_of stretch) s1 s2))

    joined : (i : ℕ) → i < 2 ^ 128 → i % 2 ^ 64 + 2 ^ 64 * (i / 2 ^ 64 % 2 ^ 64) ≡ i
    joined i i_in = omega arith

    left_out-lt : (words : List ℕ) → AreFourWords words → left_out words < 2 ^ 128
    left_out-lt words words_in = grind (arith, nat_tests, common_steps)

    wanted-are : (words : List ℕ) → AreFourWords words → first_two words ≡ hash → wanted (left_out words) ≡ words
    wanted-are (a ∷ b ∷ c ∷ d ∷ []) words_in is =
        let third : c < 2 ^ 64 = words_in.1 2 in
        let fourth : d < 2 ^ 64 = words_in.1 3 in
        grind (arith, nat_tests, common_steps)
    wanted-are words words_in is = absurd (omega (arith, words_in.0))

    pub stretches-even : ExactlyTexts (2 ^ 128) 32 (λ stretch. spooky seed1 seed2 (text_of stretch) ≡ hash)
    stretches-even =
        let by = framed back_text in
        let there = λ (i : ℕ). by.1.there (wanted i) (wanted_in i) in
        record {
          value = λ i. by.0 (wanted i);
          number = λ stretch. left_out (short_words seed1 seed2 (text_of stretch));
          value_has = λ i i_in.
              let is = by.1.back_in (wanted i) (wanted_in i) in
              (is.0, is.1, spooky-is (by.0 (wanted i)) is.1 ∙ ap first_two (there i));
          number_below = λ stretch known. left_out-lt _ (words-in stretch);
          number_of_value = λ i i_in. ap left_out (there i) ∙ joined i i_in;
          value_of_number = λ stretch known.
              sym (solved by.1 stretch _ (known.0, known.1)
              (sym (wanted-are _ (words-in stretch) (sym (spooky-is stretch known.1) ∙ known.2))));
        }
