-- Where the first chunk of a text ends, by which places are cuts.
use Rattle.hash_cuts.proofs.Common.{◌≡◌, ℕ, ◌+◌, ◌-◌, ◌*◌, ◌/◌, ◌^◌, ◌<◌, ◌≤◌, Bool, true, false, not, nat_lt, min, List, length, get_or, take, drop, arith, lit<, ap, subst, sym, ◌∙◌, div-lt_iff_lt-mul, get_or-take, cases_lt, not-false, not-true, nat_tests, prefix_len, range_with_len, Cutting, HasSizes, is_cut, first_cut, gear, gear_of, gear_step, get_or-drop, get_or-range_with_len, length-range_with_len, prefix_len-le-length, prefix_len_passes, prefix_len_stops, common_steps, rules}
use Rattle.hash_cuts.proofs.GearLemmas.{gear-more, gear-rolled}

-- the end of the first chunk at the latest
abbrev pub latest : Cutting → List ℕ → ℕ
latest cuts text = min cuts.most (length text)

-- no place from `least` on is a cut before n
abbrev pub NoCutBefore : Cutting → List ℕ → ℕ → Type 0
NoCutBefore cuts text n = (m : ℕ) → cuts.least ≤ m → m < n → is_cut cuts text m ≡ false

-- what the first cut is
pub record IsFirst (cuts : Cutting) (text : List ℕ) (n : ℕ) : Type 0 where
  pub within : n ≤ latest cuts text
  pub before : NoCutBefore cuts text n
  pub cut : n < latest cuts text → (cuts.least ≤ n) × (is_cut cuts text n ≡ true)

module _ (cuts : Cutting) (text : List ℕ) where
  places : List ℕ
  places = range_with_len cuts.least (latest cuts text - cuts.least)

  is_none : ℕ → Bool
  is_none n = not (is_cut cuts text n)

  -- how many places are no cuts
  count : ℕ
  count = prefix_len is_none places

  count-within : count ≤ latest cuts text - cuts.least
  unfolding count places
  count-within = omega (arith, prefix_len-le-length is_none places, length-range_with_len cuts.least (latest cuts text - cuts.least))

  none-before : (m : ℕ) → cuts.least ≤ m → m < cuts.least + count → is_cut cuts text m ≡ false
  unfolding count places is_none
  none-before m from before =
      let i = m - cuts.least in
      let place : cuts.least + i ≡ m = omega arith in
      let i_in : i < count = omega arith in
      let at = get_or-range_with_len cuts.least (latest cuts text - cuts.least) i 0 (omega (arith, i_in, count-within)) in
      not-true (is_cut cuts text m) (ap is_none (sym (at ∙ place)) ∙ prefix_len_passes is_none places i 0 i_in)

  cut-there : cuts.least + count < latest cuts text → is_cut cuts text (cuts.least + count) ≡ true
  unfolding count places is_none
  cut-there below =
      let len = length-range_with_len cuts.least (latest cuts text - cuts.least) in
      let at = get_or-range_with_len cuts.least (latest cuts text - cuts.least) count 0 (omega arith) in
      not-false (is_cut cuts text (cuts.least + count)) (ap is_none (sym at) ∙ prefix_len_stops is_none places 0 (omega (arith, len)))

  pub first_cut-is : IsFirst cuts text (first_cut cuts text)
  unfolding first_cut count places is_none
  first_cut-is = grind (arith, nat_tests, common_steps, none-before, count, cut-there)

  -- only one place is the first cut
  not-beyond : (n k : ℕ) → IsFirst cuts text n → IsFirst cuts text k → k ≤ n
  not-beyond n k n_is k_is = grind (arith, nat_tests, common_steps, cases_lt n k)

  pub first_cut-from : (n : ℕ) → IsFirst cuts text n → n ≡ first_cut cuts text
  first_cut-from n is = grind (arith, nat_tests, common_steps, not-beyond, first_cut-is)

-- a hash below the bound is one that is below 2 ^ 64 / average
below-bound : (hash average : ℕ) → 1 ≤ average → nat_lt hash ((2 ^ 64 - 1) / average + 1) ≡ nat_lt (hash * average) (2 ^ 64)
below-bound hash average some = grind (arith, nat_tests, common_steps, div-lt_iff_lt-mul, cases_lt)

-- a hash that rolled up to a place, from 64 bytes before the least on, and no place was a cut
pub record HasRolled (cuts : Cutting) (text : List ℕ) (place hash : ℕ) : Type 0 where
  pub hash_is : hash ≡ gear_of (gear cuts.seed1 cuts.seed2) (take (place - (cuts.least - 64)) (drop (cuts.least - 64) text))
  pub none : NoCutBefore cuts text place

module _ (cuts : Cutting) (text : List ℕ) (below : ℕ) (sizes : HasSizes cuts) (bound : below ≡ (2 ^ 64 - 1) / cuts.average + 1) where
  -- whether it is a cut where a hash rolled to
  rolled-cut : (place hash : ℕ) → cuts.least ≤ place → place ≤ length text → HasRolled cuts text place hash
      → nat_lt hash below ≡ is_cut cuts text place
  rolled-cut place hash from within rolled = grind (arith, nat_tests, common_steps, below-bound, gear-rolled)

  -- a hash below the bound is a cut's
  pub rolled-to : (place hash : ℕ) → cuts.least ≤ place → place < latest cuts text → HasRolled cuts text place hash → hash < below
      → place ≡ first_cut cuts text
  rolled-to place hash from within rolled low =
      let under : nat_lt hash below ≡ true = grind (arith, nat_tests) in
      first_cut-from cuts text place (grind (arith, nat_tests, common_steps, rolled-cut place hash from (omega (arith, within)) rolled))

  -- one that is not rolls on by one byte
  pub rolled-on : (place hash next : ℕ) → cuts.least ≤ place → place < length text
      → next ≡ gear_step (gear cuts.seed1 cuts.seed2) hash (get_or text place 0) → below ≤ hash → HasRolled cuts text place hash
      → HasRolled cuts text (place + 1) next
  rolled-on place hash next from within step high rolled =
      let number = gear cuts.seed1 cuts.seed2 in
      let above : nat_lt hash below ≡ false = grind (arith, nat_tests) in
      let none : is_cut cuts text place ≡ false = sym (rolled-cut place hash from (omega (arith, within)) rolled) ∙ above in
      grind (arith, nat_tests, common_steps, gear-more, cases_lt)

  -- four that are not roll on by four bytes
  pub rolled-on-four : (place : ℕ) (bytes : List ℕ) (hash one two three four : ℕ) → cuts.least ≤ place → place + 4 ≤ length text
      → ((i n : ℕ) → i < 4 → n ≡ place + i → get_or bytes i 0 ≡ get_or text n 0)
      → let step = gear_step (gear cuts.seed1 cuts.seed2) in
      one ≡ step hash (get_or bytes 0 0) → two ≡ step one (get_or bytes 1 0) → three ≡ step two (get_or bytes 2 0)
      → four ≡ step three (get_or bytes 3 0) → below ≤ hash → below ≤ one → below ≤ two → below ≤ three → HasRolled cuts text place hash
      → HasRolled cuts text (place + 4) four
  rolled-on-four place bytes hash one two three four from within byte one_is two_is three_is four_is high high1 high2 high3 rolled =
      let on = λ (i n h next : ℕ) (i_in : i < 4) (there : n ≡ place + i) (is : next ≡ gear_step (gear cuts.seed1 cuts.seed2) h (get_or bytes i 0)).
      rolled-on n h next (omega (arith, from, there)) (omega (arith, i_in, there, within))
      (is ∙ ap (gear_step (gear cuts.seed1 cuts.seed2) h) (byte i n i_in there)) in
      let rolled1 = on 0 place hash one (lit< tt) (omega arith) one_is high rolled in
      let rolled2 = on 1 (place + 1) one two (lit< tt) (omega arith) two_is high1 rolled1 in
      let rolled3 = on 2 (place + 1 + 1) two three (lit< tt) (omega arith) three_is high2 rolled2 in
      let all : place + 1 + 1 + 1 + 1 ≡ place + 4 = omega arith in
      subst (λ n. HasRolled cuts text n four) all (on 3 (place + 1 + 1 + 1) three four (lit< tt) (omega arith) four_is high3 rolled3)

-- the bytes at a place, one by one
pub bytes-there : (text bytes : List ℕ) (place room : ℕ) → bytes ≡ take 4 (take room (drop place text)) → 4 ≤ room
    → (i n : ℕ) → i < 4 → n ≡ place + i → get_or bytes i 0 ≡ get_or text n 0
bytes-there text bytes place room are some i n below there = search (rules, get_or-take, get_or-drop)
