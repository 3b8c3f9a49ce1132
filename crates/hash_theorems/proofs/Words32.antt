-- XXH32 as a function of one word of four bytes.
use Rattle.hash_theorems.proofs.BlockCommon.{◌≡◌, ◌≢◌, ℕ, ◌+◌, ◌-◌, ◌*◌, ◌/◌, ◌%◌, ◌^◌, ◌<◌, ◌≤◌, List, [], ◌∷◌, ◌++◌, length, slice_index, take, drop, fold, refl, sym, ap, ◌∙◌, arith, lit<, inl, inr, length-append, length-drop, drop_of_length-le, ap₂, take-add, cases_lt, All-drop, add-mod-mod, mod_below, pow_pos, first_chunks, le, rotl, add, sub, Undoes, IsWord, part-same, length-first_chunks, ◌▷◌, likewise, added, IsText, IsByte, IsFirstDifference, DifferInOneBlock, blocks, blocks_on, blocks_one, blocks_short, blocks-append, tail_on, tail_short, tail-append, xxh32, of_four_bytes, pieces, tail, words_of, converged, IsBlock, lane_back, four_between, word_between, lane_for, turn_of, begun, rest_out, last_unmix, round, start, after_block, four_in, byte_in, fours_in, rest_in, last_mix, common_steps, nat_tests, rules}
use Rattle.std.proofs.lemmas.List.{append_assoc, take-append-drop, take_at, drop_at, get_or-map, length-take-le}
use Rattle.std.specs.Int.{w32, to_le_bytes}
use borrow.Rule.Slice.PartMut.{put_mid}
use Rattle.hash_words.proofs.Chunks.{get_or-first_chunks}
use Rattle.hash_laws.proofs.FrameLemmas.{same_outside}
use Rattle.hash_theorems.specs.Xxh32Words.{DifferInOneWord}
use Rattle.hash_theorems.proofs.BackLemmas.{framed-blocks, framed-tail, framed-length, tail-left, length-tail, ahead, behind, ahead-is, behind-is, shows, block_of_first}
use Rattle.hash_theorems.proofs.Steps32.{of_fours, of_four_word, of_word, of_lane_blocks, of_sum, of_ended, round-lt, lane-block, lane-blocks, start-in, converged-lt, sum-by}

-- ---- a word behind the whole blocks

rest-framed : (h : ℕ) (front w back : List ℕ) → length front % 4 ≡ 0 → length w ≡ 4
    → rest_in h (front ++ (w ++ back)) ≡ rest_in (four_in (fours_in h front) (le w)) back
unfolding rest_in
rest-framed h front w back place whole =
    ap₂ (λ (e : ℕ) (t : List ℕ). fold byte_in e t)
    (framed-blocks 4 (lit< tt) (λ h block. four_in h (le block)) h front w back place whole)
    (framed-tail 4 (lit< tt) (λ h block. four_in h (le block)) h front w back place whole)

module _ (seed : ℕ) (front back : List ℕ) (fronts : IsText front) (backs : IsText back) (place : length front % 4 ≡ 0)
    (behind_blocks : length front % 16 + 4 + length back < 16) where
  abbrev n : ℕ
  n = length front + 4 + length back

  abbrev from : ℕ
  from = fours_in (add 32 (begun seed front n) (n % 2 ^ 32)) (tail 16 front)

  hash_behind : (w : List ℕ) → length w ≡ 4 → xxh32 seed (front ++ (w ++ back)) ≡ last_mix (rest_in (four_in from (le w)) back)
  hash_behind w whole =
      let few : length (tail 16 front ++ (w ++ back)) < 16 =
      omega (arith, length-append (tail 16 front) (w ++ back), length-append w back, length-tail 16 (lit< tt) front, whole, behind_blocks) in
      let lanes = sym (blocks_on 16 (lit< tt) after_block (start seed) front (w ++ back)) ∙ blocks_short 16 (lit< tt) after_block _ _ few in
      let left = sym (tail_on 16 (lit< tt) front (w ++ back)) ∙ tail_short 16 (lit< tt) _ few in
      rw (framed-length 4 (lit< tt) front w back whole, lanes, left, ← add-mod-mod (begun seed front n) n (2 ^ 32))
      (ap last_mix (rest-framed _ (tail 16 front) w back (omega (arith, length-tail 16 (lit< tt) front, place)) whole))

  pub word_behind : Undoes (IsBlock 4) (IsWord 32) (λ w. xxh32 seed (front ++ (w ++ back)))
      (λ h. to_le_bytes w32 (four_between from (rest_out (last_unmix h) back)))
  word_behind =
      let from_in = (of_fours (tail 16 front) (tail-left 16 (lit< tt) front fronts).0).there_in _ (mod_below _ (2 ^ 32) (pow_pos 32)) in
      likewise (λ w w_is. hash_behind w w_is.1) (λ h _. refl) (of_four_bytes ▷ of_four_word from from_in ▷ of_ended back backs)

-- ---- a word in a block

-- texts put at both ends of a block, with four bytes of it between them
block_around : (ahead near zs : List ℕ) → length ahead + 4 + length near ≡ 16 → length zs ≡ 16
    → put_mid (length ahead + 4) (16 - (length ahead + 4)) (ahead ++ drop (length ahead) zs) near
    ≡ ahead ++ (take 4 (drop (length ahead) zs) ++ near)
block_around ahead near zs sizes all =
    grind (arith, nat_tests, common_steps, take-add, take_at, drop_at, drop_of_length-le, length-append)

pub around : (ahead near zs a b : List ℕ) → length ahead + 4 + length near ≡ 16 → length zs ≡ 16 → a ≡ ahead → b ≡ near
    → (word : List ℕ) × (length word ≡ 4)
    × (put_mid (length ahead + 4) (16 - (length ahead + 4)) (a ++ drop (length ahead) zs) b ≡ ahead ++ (word ++ near))
around ahead near zs a b sizes all a_is b_is = (
  take 4 (drop (length ahead) zs),
  length-take-le 4 (drop (length ahead) zs) (omega (arith, sizes, all, length-drop (length ahead) zs)),
  ap₂ (λ (s t : List ℕ). put_mid (length ahead + 4) (16 - (length ahead + 4)) (s ++ drop (length ahead) zs) t) a_is b_is
      ∙ block_around ahead near zs sizes all,
)

word-at : (b : List ℕ) (j : ℕ) → length b ≡ 16 → j < 4 → slice_index (words_of b) j ≡ le (take 4 (drop (j * 4) b))
unfolding words_of pieces
word-at b j size below =
    let inside : j < length (first_chunks 4 (length b / 4) b) = omega (arith, below, length-first_chunks 4 (length b / 4) b) in
    get_or-map le (first_chunks 4 (length b / 4) b) j [] 0 inside
    ∙ ap le (get_or-first_chunks 4 (length b / 4) j b [] (omega (arith, below)))

module _ (seed : ℕ) (seed_in : seed < 2 ^ 32) (front back : List ℕ) (fronts : IsText front) (backs : IsText back)
    (place : length front % 4 ≡ 0) (inside : 16 ≤ length front % 16 + 4 + length back) where
  abbrev pub ahead_in_block : List ℕ
  ahead_in_block = tail 16 front

  abbrev i : ℕ
  i = length ahead_in_block / 4

  abbrev rest : ℕ
  rest = 12 - length ahead_in_block

  abbrev later : List ℕ
  later = drop rest back

  abbrev block : List ℕ → List ℕ
  block w = ahead_in_block ++ (w ++ take rest back)

  abbrev before : List ℕ
  before = blocks 16 after_block (start seed) front

  -- the lanes behind the block with a word
  abbrev lanes_of : List ℕ → List ℕ
  lanes_of w = blocks 16 after_block (after_block before (block w)) later

  abbrev m : ℕ
  m = length front + 4 + length back

  size : (length ahead_in_block ≡ i * 4) × (i < 4) × (12 ≤ length ahead_in_block + length back)
  size = let tail_size = length-tail 16 (lit< tt) front in (omega (arith, tail_size, place), omega (arith, tail_size), omega (arith, tail_size, inside))

  taken : length (take rest back) ≡ rest
  taken = length-take-le rest back (omega (arith, size))

  module _ (w : List ℕ) (whole : length w ≡ 4) where
    block-size : length (block w) ≡ 16
    block-size =
        omega (arith, length-append ahead_in_block (w ++ take rest back), length-append w (take rest back), taken, whole, size)

    regrouped : ahead_in_block ++ (w ++ back) ≡ block w ++ later
    regrouped =
        ap (λ (t : List ℕ). ahead_in_block ++ (w ++ t)) (sym (take-append-drop rest back)) ∙ simp append_assoc

    hash_inside : xxh32 seed (front ++ (w ++ back)) ≡ last_mix (rest_in (add 32 (converged (lanes_of w)) (m % 2 ^ 32)) (tail 16 later))
    hash_inside =
        let once : length (block w) ≡ 1 * 16 = omega (arith, block-size) in
        let lanes : blocks 16 after_block (start seed) (front ++ (w ++ back)) ≡ lanes_of w =
        sym (blocks_on 16 (lit< tt) after_block (start seed) front (w ++ back)) ∙ ap (blocks 16 after_block before) regrouped
        ∙ blocks-append 16 (lit< tt) after_block before (block w) later 1 once
        ∙ ap (λ (s : List ℕ). blocks 16 after_block s later) (blocks_one 16 (lit< tt) after_block before (block w) block-size) in
        let left : tail 16 (front ++ (w ++ back)) ≡ tail 16 later =
        sym (tail_on 16 (lit< tt) front (w ++ back)) ∙ ap (tail 16) regrouped ∙ tail-append 16 (lit< tt) (block w) later 1 once in
        grind (arith, nat_tests, common_steps, framed-length, lit<, last_mix, rest_in, tail, add-mod-mod, converged)

    here : slice_index (lanes_of w) i
        ≡ blocks 16 (λ lane block. round lane (slice_index (words_of block) i)) (round (slice_index before i) (le w)) later
    here =
        let word : slice_index (words_of (block w)) i ≡ le w =
        word-at (block w) i block-size size.1
        ∙ ap (λ (t : List ℕ). le (take 4 t)) (drop_at ahead_in_block (w ++ take rest back) (i * 4) size.0)
        ∙ ap le (take_at w (take rest back) 4 whole) in
        lane-blocks (after_block before (block w)) later i size.1
        ∙ ap (λ (l : ℕ). blocks 16 (λ lane block. round lane (slice_index (words_of block) i)) l later)
        (lane-block before (block w) i size.1 ∙ ap (round (slice_index before i)) word)

  elsewhere : (v w : List ℕ) → length v ≡ 4 → length w ≡ 4 → (j : ℕ) → j < 4 → (j ≡ i → ⊥) → slice_index (lanes_of v) j ≡ slice_index (lanes_of w) j
  elsewhere v w vs ws j below other =
      let parts : take 4 (drop (j * 4) (block v)) ≡ take 4 (drop (j * 4) (block w)) =
      part-same 4 (j * 4) (block v) (block w) (block-size v vs ∙ sym (block-size w ws)) (λ k k_in.
      grind (arith, nat_tests, common_steps, same_outside, cases_lt, size)) in
      let words = word-at (block v) j (block-size v vs) below ∙ ap le parts ∙ sym (word-at (block w) j (block-size w ws) below) in
      search (rules, lane-blocks, after_block, blocks, round, words_of, lane-block)

  -- the word in a block, by the lanes with another word in its place
  pub word_inside : (z : List ℕ) → length z ≡ 4 → Undoes (IsBlock 4) (IsWord 32) (λ w. xxh32 seed (front ++ (w ++ back)))
      (λ h. to_le_bytes w32 (word_between (slice_index before i) (lane_back i (lane_for i
      (sub 32 (rest_out (last_unmix h) (tail 16 later)) (m % 2 ^ 32)) (converged (lanes_of z)) (slice_index (lanes_of z) i)) later)))
  word_inside z z_size =
      let laters = All-drop IsByte rest back backs in
      let lane_in : slice_index before i < 2 ^ 32 = rw (lane-blocks (start seed) front i size.1)
      ((of_lane_blocks i front fronts).there_in _ (start-in seed i seed_in size.1)) in
      let spare_in : slice_index (lanes_of z) i < 2 ^ 32 = rw (here z z_size)
      ((of_lane_blocks i later laters).there_in (round (slice_index before i) (le z)) (round-lt (slice_index before i) (le z))) in
      let total_in = mod_below m (2 ^ 32) (pow_pos 32) in
      let sum_of = λ (x : ℕ). add 32 (sub 32 (rotl 32 x (turn_of i)) (rotl 32 (slice_index (lanes_of z) i) (turn_of i))) (converged (lanes_of z)) in
      likewise (λ w w_is. hash_inside w w_is.1 ∙ ap (λ (c : ℕ). last_mix (rest_in (add 32 c (m % 2 ^ 32)) (tail 16 later)))
      (sum-by (lanes_of z) (lanes_of w) i size.1 spare_in (elsewhere w z w_is.1 z_size) ∙ ap sum_of (here w w_is.1))) (λ h _. refl)
      (of_four_bytes ▷ of_word (slice_index before i) lane_in ▷ of_lane_blocks i later laters
      ▷ of_sum i (converged (lanes_of z)) (slice_index (lanes_of z) i) (converged-lt (lanes_of z)) spare_in
      ▷ added 32 (m % 2 ^ 32) total_in ▷ of_ended (tail 16 later) (tail-left 16 (lit< tt) later laters).0)

-- ---- a word anywhere

module _ (seed : ℕ) (seed_in : seed < 2 ^ 32) (front back : List ℕ) (fronts : IsText front) (backs : IsText back)
    (place : length front % 4 ≡ 0) where
  pub framed : (g : ℕ → List ℕ) × Undoes (IsBlock 4) (IsWord 32) (λ w. xxh32 seed (front ++ (w ++ back))) g
  framed = elim (cases_lt (length front % 16 + 4 + length back) 16) [
    | inl few ↦ (_, word_behind seed front back fronts backs place few)
    | inr many ↦ (_, word_inside seed seed_in front back fronts backs place many (0 ∷ 0 ∷ 0 ∷ 0 ∷ []) refl)
  ]

-- two texts that differ in one word
pub word-differs : (seed : ℕ) (x y : List ℕ) → seed < 2 ^ 32 → IsText x → IsText y → DifferInOneWord x y → xxh32 seed x ≢ xxh32 seed y
word-differs seed x y seed_in xs ys one =
    let front_is = ahead-is 4 (lit< tt) x y xs ys one.differ one.whole in
    let back_is = behind-is 4 (lit< tt) x y xs ys one.differ one.whole in
    shows 4 (lit< tt) x y xs ys one.differ one.whole (xxh32 seed)
    (framed seed seed_in (ahead 4 (lit< tt) x y xs ys one.differ one.whole) (behind 4 (lit< tt) x y xs ys one.differ one.whole)
    front_is.0 back_is.0 (omega (arith, front_is.1))).1

-- the word of the first difference is the one in which they differ
pub DifferInOneWord-at : (x y : List ℕ) (first : ℕ) → IsFirstDifference first x y → (differ : DifferInOneBlock 4 x y)
    → first / 4 * 4 + 4 ≤ length x → DifferInOneWord x y
DifferInOneWord-at x y first is differ whole =
    let here = block_of_first 4 x y first is differ in
    record { differ = differ; whole = omega (arith, here, whole) }
