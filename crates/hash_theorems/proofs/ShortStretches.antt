-- A text below 192 bytes by its stretches, the 32 bytes each that are added between two mixes: no two texts that differ only in
-- one have the same four words.
use Rattle.hash_theorems.proofs.JenkinsCommon.{◌≡◌, ◌≢◌, ◌%◌, ◌*◌, ◌++◌, ◌+◌, ◌-◌, ◌/◌, ◌<◌, ◌^◌, ◌∙◌, ◌∷◌, ◌≤◌, All, List, [], ap, arith, drop, fold, length, length-append, lit<, map, refl, replicate, slice_index, slice_set, suc, sym, take, zero, ℕ, ap₂, fold-append, append_assoc, append_cancel_left, drop_all, length-drop, length-take-le, nil_from_length, take-append-drop, take_all, All-append, All-replicate, first_chunks, to_le_bytes, w64, add_at, sub, reverse, no_words, IsPiece, first_chunks-pieces, part-same, texts-same, of_eight_bytes, Undoes, ◌▷◌, folded, told, of_steps, short_end, short_mix, AddData, AreFourWords, short_end-steps, short_mix-steps, stepped, words-listed, IsText, DifferInOne, zero_filled, add_chunk, short_start, short_words, short_words_v1, le, le_words, pieces, apply, undo, chunks_from, missing, stretch_of, common_steps, nat_tests, rules}
use Rattle.hash_words.proofs.Chunks.{first_chunks-append}
use Rattle.hash_rounds.specs.Rounds as rounds
use Rattle.hash_jenkins.proofs.FilledLemmas.{agree_between, filled-piece, filled-same, length-zero_filled, zero_filled-longer}
use Rattle.hash_theorems.proofs.Sums.{add-nothing, of_sums_4, of_words, sums_4}
use Rattle.hash_jenkins.proofs.ZeroLemmas.{add_at-AreFourWords, fold-AreFourWords, short_start-AreFourWords, start-AreFourWords, start_of}

-- ---- a stretch behind a mix

-- the words of 32 bytes
abbrev pub four : List ℕ → List ℕ
four c = map le (first_chunks 8 4 c)

abbrev pub add_stretch : List ℕ → List ℕ → List ℕ
add_stretch h c = apply 64 sums_4 (four c) (short_mix h)

pub of_four : Undoes (IsPiece 32) AreFourWords four stretch_of
of_four = of_words 8 64 (to_le_bytes w64) of_eight_bytes 4

-- four words before a mix that gives these
abbrev pub unmix : List ℕ → List ℕ
unmix h = apply 64 (undo 64 rounds.short_mix_steps) [] h

pub of_mix : Undoes AreFourWords AreFourWords short_mix unmix
of_mix = of_steps 64 4 0 [] (no_words 64) rounds.short_mix_steps short_mix-steps

-- the words before it are undone by the stretch, and the stretch by the words before it
of_state : (c : List ℕ) → IsPiece 32 c
    → Undoes AreFourWords AreFourWords (λ h. add_stretch h c) (λ t. unmix (apply 64 (undo 64 sums_4) (four c) t))
of_state c is = of_mix ▷ of_steps 64 4 4 (four c) (of_four.there_in c is).1 sums_4 refl

pub of_stretch : (h : List ℕ) → AreFourWords h
    → Undoes (IsPiece 32) AreFourWords (add_stretch h) (λ t. stretch_of (missing (short_mix h) t))
of_stretch h h_in = of_four ▷ of_sums_4 (short_mix h) (of_mix.there_in h h_in)

add_stretch-in : (h c : List ℕ) → AreFourWords h → AreFourWords (add_stretch h c)
add_stretch-in h c h_in = stepped 64 4 4 (four c) sums_4 refl (short_mix h) (of_mix.there_in h h_in)

-- ---- pieces of joined texts

module _ (g : List ℕ → List ℕ → List ℕ) (h : List ℕ) where
  pub pieces-append : (a b : List ℕ) → length a % 32 ≡ 0
      → fold g h (pieces 32 (a ++ b)) ≡ fold g (fold g h (pieces 32 a)) (pieces 32 b)
  unfolding pieces
  pieces-append a b e =
      rw (first_chunks-append 32 (length a / 32) (length b / 32) (length (a ++ b) / 32) a b (omega (arith, length-append a b))
      (omega arith))
      (fold-append g h (first_chunks 32 (length a / 32) a) (first_chunks 32 (length b / 32) b))

  pub pieces-one : (c : List ℕ) → length c ≡ 32 → fold g h (pieces 32 c) ≡ g h c
  unfolding pieces
  pieces-one c len = rw (len, take_all 32 c (omega arith)) refl

  pub pieces-then : (c b : List ℕ) → length c ≡ 32 → fold g h (pieces 32 (c ++ b)) ≡ fold g (g h c) (pieces 32 b)
  pieces-then c b len = pieces-append c b (omega arith) ∙ ap (λ k. fold g k (pieces 32 b)) (pieces-one c len)

abbrev pub stretches : List ℕ → List ℕ → List ℕ
stretches h text = fold add_stretch h (pieces 32 text)

all_pieces : (text : List ℕ) → IsText text → All (IsPiece 32) (pieces 32 text)
unfolding pieces
all_pieces text is_text = first_chunks-pieces 32 (length text / 32) text is_text (omega arith)

pub stretches-in : (h text : List ℕ) → AreFourWords h → AreFourWords (stretches h text)
stretches-in h text h_in = fold-AreFourWords add_stretch add_stretch-in (pieces 32 text) h h_in

pub of_stretches : (text : List ℕ) → IsText text → Undoes AreFourWords AreFourWords (λ h. stretches h text)
    (λ t. fold (λ h c. unmix (apply 64 (undo 64 sums_4) (four c) h)) t (reverse (pieces 32 text)))
of_stretches text is_text = folded of_state (pieces 32 text) (all_pieces text is_text)

-- ---- chunks by stretches

abbrev pub none : List ℕ
none = replicate 16 0

-- the two words of half a chunk are added
abbrev add_first : List ℕ → List ℕ → List ℕ
add_first h p = add_at (add_at h 0 (le (take 8 p))) 1 (le (take 8 (drop 8 p)))

abbrev add_last : List ℕ → List ℕ → List ℕ
add_last h p = add_at (add_at h 2 (le (take 8 p))) 3 (le (take 8 (drop 8 p)))

none-adds : (h : List ℕ) → AreFourWords h → (add_first h none ≡ h) × (add_last h none ≡ h)
unfolding le
none-adds h h_in = grind (arith, nat_tests, common_steps, add-nothing)

four-halves : (p a : List ℕ) → length p ≡ 16
    → four (p ++ a) ≡ le (take 8 p) ∷ le (take 8 (drop 8 p)) ∷ le (take 8 a) ∷ le (take 8 (drop 8 a)) ∷ []
four-halves p a p_len = ap (map le) (first_chunks-append 8 2 2 4 p a refl p_len)

le_words-are : (c : List ℕ) → length c ≡ 32 → le_words c ≡ four c
unfolding le_words pieces
le_words-are c len = rw len refl

add_stretch-halves : (h p a : List ℕ) → length p ≡ 16 → add_stretch h (p ++ a) ≡ add_last (add_first (short_mix h) p) a
unfolding apply
add_stretch-halves h p a p_len = ap (λ (d : List ℕ). apply 64 sums_4 d (short_mix h)) (four-halves p a p_len)

pub none-added : (h : List ℕ) → AreFourWords h → add_stretch h (none ++ none) ≡ short_mix h
none-added h h_in =
    let adds = none-adds (short_mix h) (of_mix.there_in h h_in) in
    add_stretch-halves h none none refl ∙ ap (λ (k : List ℕ). add_last k none) adds.0 ∙ adds.1

abbrev pub f : List ℕ → List ℕ → List ℕ
f h c = add_chunk h (le_words c)

-- a text of chunks, where the last half of a chunk is added already
by_stretches : (k : ℕ) (u p text : List ℕ) → AreFourWords u → length p ≡ 16 → length text ≡ k * 32
    → stretches u (p ++ (text ++ none)) ≡ fold f (add_first (short_mix u) p) (pieces 32 text)
unfolding pieces
by_stretches zero u p text u_in p_len len =
    let added_in = add_at-AreFourWords _ 1 (le (take 8 (drop 8 p))) (add_at-AreFourWords _ 0 (le (take 8 p)) (of_mix.there_in u u_in)) in
    rw (nil_from_length text (omega arith)) (pieces-one add_stretch u (p ++ none) (omega (arith, length-append p none))
    ∙ add_stretch-halves u p none p_len ∙ (none-adds _ added_in).1)
by_stretches (suc k) u p text u_in p_len len =
    let a = take 16 text in
    let b = take 16 (drop 16 text) in
    let rest = drop 16 (drop 16 text) in
    let a_len = length-take-le 16 text (omega arith) in
    let b_len = length-take-le 16 (drop 16 text) (omega (arith, length-drop 16 text)) in
    let whole : length (a ++ b) ≡ 32 = omega (arith, length-append a b) in
    let split : text ≡ a ++ (b ++ rest) = sym (ap (λ t. a ++ t) (take-append-drop 16 (drop 16 text)) ∙ take-append-drop 16 text) in
    let places : p ++ (text ++ none) ≡ (p ++ a) ++ (b ++ (rest ++ none)) =
    ap (λ t. p ++ (t ++ none)) split ∙ simp append_assoc in
    ap (stretches u) places
    ∙ pieces-then add_stretch u (p ++ a) (b ++ (rest ++ none)) (omega (arith, length-append p a))
    ∙ by_stretches k (add_stretch u (p ++ a)) b rest (add_stretch-in u (p ++ a) u_in) b_len
    (omega (arith, length-drop 16 text, length-drop 16 (drop 16 text)))
    ∙ ap (λ h. fold f (add_first (short_mix h) b) (pieces 32 rest)) (add_stretch-halves u p a p_len)
    ∙ ap (λ w. fold f (add_chunk (add_first (short_mix u) p) w) (pieces 32 rest))
    (sym (le_words-are (a ++ b) whole ∙ four-halves a b a_len))
    ∙ sym (ap (λ t. fold f (add_first (short_mix u) p) (pieces 32 t)) (split ∙ sym (append_assoc a b rest))
    ∙ pieces-then f (add_first (short_mix u) p) (a ++ b) rest whole)

-- the chunks of a text that is filled up to n bytes
pub chunks-are : (h : List ℕ) → AreFourWords h → (n : ℕ) (text : List ℕ) → n % 32 ≡ 0 → length text ≤ n
    → chunks_from h (zero_filled n text) ≡ stretches (unmix h) (none ++ zero_filled (n + 16) text)
unfolding chunks_from
chunks-are h h_in n text whole fits =
    sym (ap (λ (t : List ℕ). stretches (unmix h) (none ++ t)) (zero_filled-longer n 16 text fits)
    ∙ by_stretches (n / 32) (unmix h) none (zero_filled n text) (of_mix.back_in h h_in) refl (omega (arith, length-zero_filled n text fits))
    ∙ ap (λ (s : List ℕ). fold f s (pieces 32 (zero_filled n text)))
    (ap (λ (s : List ℕ). add_first s none) (of_mix.there h h_in) ∙ (none-adds h h_in).0))

-- what leads to the start from two seeds by a mix
abbrev pub seeded : ℕ → ℕ → List ℕ
seeded seed1 seed2 = unmix (start_of seed1 seed2)

pub seeded-in : (seed1 seed2 : ℕ) → seed1 < 2 ^ 64 → seed2 < 2 ^ 64 → AreFourWords (seeded seed1 seed2)
seeded-in seed1 seed2 s1 s2 = of_mix.back_in (start_of seed1 seed2) (start-AreFourWords seed1 seed2 s1 s2)

pub short_start-is : (seed1 seed2 : ℕ) (text : List ℕ) → seed1 < 2 ^ 64 → seed2 < 2 ^ 64 → length text ≤ 192
    → short_start seed1 seed2 text ≡ stretches (seeded seed1 seed2) (none ++ zero_filled 208 text)
short_start-is seed1 seed2 text s1 s2 few =
    chunks-are (start_of seed1 seed2) (start-AreFourWords seed1 seed2 s1 s2) 192 text refl few

-- ---- the length and the last mix

abbrev pub ended : ℕ → List ℕ → List ℕ
ended n h = short_end (add_at h 3 (n * 2 ^ 56))

abbrev pub unend : List ℕ → List ℕ
unend = apply 64 (undo 64 rounds.short_end_steps) []

pub of_end : Undoes AreFourWords AreFourWords short_end unend
of_end = of_steps 64 4 0 [] (no_words 64) rounds.short_end_steps short_end-steps

module _ (n : ℕ) (few : n < 192) where
  of_length : Undoes AreFourWords AreFourWords (λ h. add_at h 3 (n * 2 ^ 56)) (apply 64 (undo 64 (AddData 3 0 ∷ [])) (n * 2 ^ 56 ∷ []))
  unfolding apply
  of_length = of_steps 64 4 1 (n * 2 ^ 56 ∷ []) (words-listed 64 (n * 2 ^ 56 ∷ []) (omega arith, tt)).1 (AddData 3 0 ∷ []) refl

  pub of_ended : Undoes AreFourWords AreFourWords (ended n) (λ t. apply 64 (undo 64 (AddData 3 0 ∷ [])) (n * 2 ^ 56 ∷ []) (unend t))
  of_ended = of_length ▷ of_end

  -- the length taken off and added
  pub length-back : (h : List ℕ) → AreFourWords h
      → add_at (slice_set h 3 (sub 64 (slice_index h 3) (n * 2 ^ 56 % 2 ^ 64))) 3 (n * 2 ^ 56) ≡ h
  unfolding apply undo
  length-back h h_in = let long : n * 2 ^ 56 % 2 ^ 64 ≡ n * 2 ^ 56 = omega arith in rw long (of_length.there h h_in)

-- ---- texts that differ in one stretch

module _ (seed1 seed2 : ℕ) (x y : List ℕ) (s1 : seed1 < 2 ^ 64) (s2 : seed2 < 2 ^ 64) (xs : IsText x) (ys : IsText y) (few : length x < 192)
    (differ : DifferInOne (λ i. (i + 16) / 32) x y) where
  -- sixteen zeros, and the text filled up to seven stretches
  abbrev seven : List ℕ → List ℕ
  seven z = none ++ zero_filled 208 z

  seven-is : (z : List ℕ) → IsText z → length z < 192 → IsPiece 224 (seven z)
  seven-is z is_text z_few = search (rules, filled-piece, All-append, All-replicate, lit<, length-append)

  at : (p : ℕ) → p / 32 ≢ differ.one.0 → slice_index (seven x) p ≡ slice_index (seven y) p
  at p other =
      agree_between none x y (replicate (208 - length x) 0) p differ.same_length
      (λ from. differ.one.1 (p - 16) (λ (e : (p - 16 + 16) / 32 ≡ differ.one.0). other (omega (arith, e, from))))
      ∙ ap (λ n. slice_index (none ++ (y ++ replicate (208 - n) 0)) p) differ.same_length

  start-differ : short_start seed1 seed2 x ≢ short_start seed1 seed2 y
  unfolding pieces
  start-differ = λ same.
      let g = differ.one.0 in
      let x_is = seven-is x xs few in
      let y_is = seven-is y ys (omega (arith, differ.same_length)) in
      let len = x_is.1 ∙ sym y_is.1 in
      let u = seeded seed1 seed2 in
      let past = drop_all 224 (seven x) (omega (arith, x_is.1)) ∙ sym (drop_all 224 (seven y) (omega (arith, y_is.1))) in
      let led : stretches u (seven x) ≡ stretches u (seven y) =
      sym (short_start-is seed1 seed2 x s1 s2 (omega arith)) ∙ same
      ∙ short_start-is seed1 seed2 y s1 s2 (omega (arith, differ.same_length)) in
      let whole = texts-same AreFourWords (IsPiece 32) add_stretch (λ s c s_in _. add_stretch-in s c s_in)
      (λ s t c s_in t_in is. told (of_state c is) s t s_in t_in)
      (λ _ _. Unit {0}) (λ s c e s_in c_is e_is _. told (of_stretch s s_in) c e c_is e_is) 32 (λ s (r : List ℕ). (s, r)) (λ c is. is)
      (λ s t r _ _ _ _ e. ap (λ (p : List ℕ × List ℕ). p.0) e) (λ s q r _ _ _ _ _ e. ap (λ (p : List ℕ × List ℕ). p.1) e)
      7 g (seven x) (seven y) u (seeded-in seed1 seed2 s1 s2) x_is.0 y_is.0 len (omega (arith, x_is.1)) (omega (arith, x_is.1))
      (λ i i_in other. part-same 32 (i * 32) (seven x) (seven y) len
      (λ j j_in. at (i * 32 + j) (λ (e : (i * 32 + j) / 32 ≡ g). other (omega (arith, e, j_in)))))
      (λ _. past) (λ _. tt) (ap₂ (λ (s r : List ℕ). (s, r)) (rw (x_is.1, y_is.1) at led) past) in
      differ.different (filled-same 208 x y differ.same_length (append_cancel_left none (zero_filled 208 x) (zero_filled 208 y) whole))

  pub short_words-differ : short_words seed1 seed2 x ≢ short_words seed1 seed2 y
  short_words-differ = λ same. start-differ (told (of_ended (length y) (omega (arith, differ.same_length))) _ _
      (short_start-AreFourWords seed1 seed2 x s1 s2) (short_start-AreFourWords seed1 seed2 y s1 s2)
      (ap (λ n. ended n (short_start seed1 seed2 x)) (sym differ.same_length) ∙ same))

  pub short_words_v1-differ : short_words_v1 seed1 seed2 x ≢ short_words_v1 seed1 seed2 y
  short_words_v1-differ = λ same. start-differ (told of_end _ _
      (short_start-AreFourWords seed1 seed2 x s1 s2) (short_start-AreFourWords seed1 seed2 y s1 s2) same)
