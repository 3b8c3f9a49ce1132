-- Two keys of a map have one hash at few keys of the hash.
use Rattle.std.proofs.lemmas.Grind.{common_steps}
use Rattle.std.proofs.lemmas.Bool.Decides.{nat_tests}
use Rattle.hash_map_keys.proofs.Common.{ℕ, All, All-drop, All-filter, All-take, AllPairs, AllPairs-filter, AreKeys, AreMapKeys, AreTables, AreWords, Bool, IsByte, IsText, List, NeitherBegins, [], ap, ap₂, arith, cases_lt, count_by, drop, drop-append_seam, drop_of_length-le, eights, eq-eqb, eqb-true, false, false≢true, few_keys_meet, filter, filter_passes, get_or, inl, inr, key_words, last_word, le, le-append, le-begins, length, length-drop, length-filter, length-take, length-take-le, map_hash, max, min, mul-add-lt, nat_eq, poly61, prime61, refl, subst, suc, sym, take, take-add, take-append-drop, take-append_seam, take-length, take-take, take_all, true, true≢false, word_count, words_hash, zero, ◌%◌, ◌&&◌, ◌*◌, ◌++◌, ◌+◌, ◌-◌, ◌/◌, ◌<◌, ◌^◌, ◌∙◌, ◌∷◌, ◌≡◌, ◌≢◌, ◌≤◌}
use Rattle.hash_map_keys.proofs.Counting.{count, few_but_those, those, those_below, those_differ, those_marked}
use Rattle.hash_map_keys.proofs.Counting.{having}
use Rattle.hash_map_keys.proofs.FromEvenness.{share_both}
use Rattle.hash_map_keys.proofs.KeyLaws.{few_share}
use Rattle.hash_map_keys.proofs.Odds.{same_by_places}
use Rattle.hash_map_keys.proofs.WordHashes.{digits, digits_in, digits_tell}
use Rattle.hash_map_keys.proofs.WordHashes as words
use Rattle.hash_map_keys.proofs.Dots.{key_words_are, length-eights}

pub few_meet : (s t : List ℕ) (text_key low high : ℕ) (keys : List (List ℕ × ℕ)) → IsText s → IsText t
    → key_words text_key s ≢ key_words text_key t → low + high ≤ 64 → AreTables 17 keys
    → All (λ key. (map_hash key.0 key.1 text_key s % 2 ^ low ≡ map_hash key.0 key.1 text_key t % 2 ^ low)
    × (map_hash key.0 key.1 text_key s / 2 ^ (64 - high) ≡ map_hash key.0 key.1 text_key t / 2 ^ (64 - high))) keys
    → length keys ≤ 2 ^ (2304 - low - high)
few_meet s t text_key low high keys s_is t_is differ within are have =
    few_share 17 (key_words text_key s) (key_words text_key t) low high keys (key_words_are text_key s s_is) (key_words_are text_key t t_is) differ within
    are have

-- ---- the words tell the first 128 bytes

joined : List ℕ → ℕ
joined [] = 0
joined (w ∷ ws) = w + joined ws * 2 ^ 64

joined_eights : (n : ℕ) (bytes : List ℕ) → joined (eights n bytes) ≡ le (take (8 * n) bytes)
unfolding joined eights le
joined_eights zero bytes = refl
joined_eights (suc n) bytes =
    let first = take 8 bytes in
    let more = take (8 * n) (drop 8 bytes) in
    let split : take (8 * suc n) bytes ≡ first ++ more =
    ap (λ k. take k bytes) (let e : 8 * suc n ≡ 8 + 8 * n = omega arith in e) ∙ take-add 8 (8 * n) bytes in
    let others : le more * 2 ^ 64 ≡ le more * 2 ^ (8 * length first) =
    grind (arith, nat_tests, common_steps, cases_lt, length-take-le, drop_of_length-le, take_all) in
    ap (λ z. le first + z * 2 ^ 64) (joined_eights n (drop 8 bytes)) ∙ ap (λ z. le first + z) others ∙ sym (le-append first more) ∙ ap le (sym split)

module _ (key : ℕ) (s t : List ℕ) (same : key_words key s ≡ key_words key t) where
  eights_same : eights 16 s ≡ eights 16 t
  eights_same = grind (arith, nat_tests, common_steps, length-eights, take-append_seam)

  last_same : last_word key (drop 128 s) ≡ last_word key (drop 128 t)
  last_same = grind (arith, nat_tests, common_steps, length-eights, drop-append_seam)

  numbers_same : le (take 128 s) ≡ le (take 128 t)
  numbers_same = sym (joined_eights 16 s) ∙ ap joined eights_same ∙ joined_eights 16 t

-- a text of at most 128 bytes that has the words of another one begins it, or begins with it
short_first : (s t : List ℕ) → IsText s → IsText t → NeitherBegins s t → length s ≤ 128 → le (take 128 s) ≢ le (take 128 t)
short_first s t s_is t_is neither few same =
    let whole : take 128 s ≡ s = take_all 128 s few in
    let first : le s ≡ le (take 128 t) = ap le (sym whole) ∙ same in
    let cut_is = All-take IsByte 128 t t_is in
    let long : length (take 128 t) ≡ min 128 (length t) = length-take 128 t in
    elim (cases_lt (length (take 128 t)) (length s)) [
      | inr more ↦
          neither.0
          (sym (take-take (length s) 128 t few)
          ∙ le-begins s (take 128 t) s_is cut_is more first)
      | inl less ↦
          let all : take 128 t ≡ t = take_all 128 t (omega (arith, less, long, few)) in
          neither.1
          (le-begins t s t_is s_is (omega (arith, ap length all, less)) (sym (first ∙ ap le all)))
    ]

pub short_apart : (s t : List ℕ) (text_key : ℕ) → IsText s → IsText t → NeitherBegins s t → length s ≤ 128 → key_words text_key s ≢ key_words text_key t
short_apart s t text_key s_is t_is neither few same = short_first s t s_is t_is neither few (numbers_same text_key s t same)

flip : (s t : List ℕ) → NeitherBegins s t → NeitherBegins t s
flip s t neither = (neither.1, neither.0)

-- the same first 128 bytes
fronts_same : (s t : List ℕ) → IsText s → IsText t → 128 ≤ length s → 128 ≤ length t → le (take 128 s) ≡ le (take 128 t) → take 128 s ≡ take 128 t
fronts_same s t s_is t_is s_long t_long same =
    let one = length-take-le 128 s s_long in
    let two = length-take-le 128 t t_long in
    sym (le-begins (take 128 s) (take 128 t) (All-take IsByte 128 s s_is) (All-take IsByte 128 t t_is) (omega (arith, one, two)) same)
    ∙ ap (λ k. take k (take 128 t)) (one ∙ sym two) ∙ take-length (take 128 t)

rest_is : (key : ℕ) (bytes : List ℕ) → 0 < length bytes → last_word key bytes ≡ poly61 key bytes
unfolding last_word
rest_is key [] some = absurd (omega (arith, some))
rest_is key (byte ∷ bytes) some = refl

-- the first 128 bytes are the same as numbers, and so are the words of those behind them
abbrev Same : ℕ → List ℕ → List ℕ → Type 0
Same key s t = (le (take 128 s) ≡ le (take 128 t)) × (last_word key (drop 128 s) ≡ last_word key (drop 128 t))

pub few_same_parts : (s t : List ℕ) (text_keys : List ℕ) → IsText s → IsText t → NeitherBegins s t → AreKeys prime61 text_keys
    → All (λ text_key. Same text_key s t) text_keys → length text_keys ≤ max (word_count (drop 128 s)) (word_count (drop 128 t)) + 1
few_same_parts s t [] s_is t_is neither are have = omega arith
few_same_parts s t (first ∷ others) s_is t_is neither are have =
    let numbers = (have 0 0 (omega arith)).0 in
    elim (cases_lt 128 (length s)) [
      | inr few ↦ absurd (short_first s t s_is t_is neither few numbers)
      | inl s_long ↦ elim (cases_lt 128 (length t)) [
        | inr few ↦ absurd (short_first t s t_is s_is (flip s t neither) few (sym numbers))
        | inl t_long ↦
            let fronts = fronts_same s t s_is t_is (omega (arith, s_long)) (omega (arith, t_long)) numbers in
            let s_more : 0 < length (drop 128 s) = omega (arith, length-drop 128 s, s_long) in
            let t_more : 0 < length (drop 128 t) = omega (arith, length-drop 128 t, t_long) in
            few_keys_meet (drop 128 s) (drop 128 t) (first ∷ others) (All-drop IsByte 128 s s_is) (All-drop IsByte 128 t t_is)
            (λ backs.
            grind (arith, nat_tests, common_steps, take-append-drop 128 s, take-append-drop 128 t, take-length t)) are
            (λ i d h.
            let k = get_or (first ∷ others) i d in
            sym (rest_is k (drop 128 s) s_more) ∙ (have i d h).1 ∙ rest_is k (drop 128 t) t_more)
      ]
    ]

pub few_same : (s t : List ℕ) (text_keys : List ℕ) → IsText s → IsText t → NeitherBegins s t → AreKeys prime61 text_keys
    → All (λ text_key. key_words text_key s ≡ key_words text_key t) text_keys
    → length text_keys ≤ max (word_count (drop 128 s)) (word_count (drop 128 t)) + 1
few_same s t text_keys s_is t_is neither are have =
    few_same_parts s t text_keys s_is t_is neither are
    (λ i d h. let k = get_or text_keys i d in (numbers_same k s t (have i d h), last_same k s t (have i d h)))

-- ---- all keys together

both_parts : (a b : Bool) → (a && b) ≡ true → (a ≡ true) × (b ≡ true)
both_parts true b both = (refl, both)
both_parts false b both = absurd (false≢true both)

abbrev Key : Type 0
Key = (List ℕ × ℕ) × ℕ

abbrev IsKey : Key → Type 0
IsKey key = (length key.0.0 ≡ 17) × All (λ a. a < 2 ^ 128) key.0.0 × (key.0.1 < 2 ^ 128) × (key.1 < prime61)

-- those with one key for texts
module _ (i : ℕ) where
  abbrev IsAt : Key → Type 0
  IsAt key = (length key.0.0 ≡ 17) × All (λ a. a < 2 ^ 128) key.0.0 × (key.0.1 < 2 ^ 128) × (key.1 ≡ i)

  tell : (k l : Key) → IsAt k → IsAt l → k.0.0 ≡ l.0.0 → k.0.1 ≡ l.0.1 → k ≡ l
  tell k l k_is l_is one two =
      ap₂ (λ (p : List ℕ × ℕ) (n : ℕ). (p, n)) (ap₂ (λ (a : List ℕ) (b : ℕ). (a, b)) one two) (k_is.3 ∙ sym l_is.3)

  few_at : (x y : List ℕ) (low high : ℕ) (keys : List Key) → AreWords 17 x → AreWords 17 y → x ≢ y → low + high ≤ 64 → All IsAt keys → AllPairs ◌≢◌ keys
      → All (λ key. (words_hash key.0.0 key.0.1 x % 2 ^ low ≡ words_hash key.0.0 key.0.1 y % 2 ^ low)
      × (words_hash key.0.0 key.0.1 x / 2 ^ (64 - high) ≡ words_hash key.0.0 key.0.1 y / 2 ^ (64 - high))) keys
      → length keys ≤ 2 ^ (2304 - low - high)
  few_at x y low high keys x_are y_are apart within are differ have =
      share_both IsAt (λ (k : Key) z. words_hash k.0.0 k.0.1 z) (words.hash_in IsAt (λ k. k.0.0) (λ k. k.0.1) tell 17 (λ k is. (is.0, is.1)) (λ k is. is.2)) 2176 x y
      (words.even_words IsAt (λ k. k.0.0) (λ k. k.0.1) tell 17 (λ k is. (is.0, is.1)) (λ k is. is.2) x y x_are y_are apart) low high within keys are differ
      have

  all_at : (keys : List Key) → All IsAt keys → AllPairs ◌≢◌ keys → length keys ≤ 2 ^ 2304
  all_at keys are differ =
      count IsAt (λ k. digits k.0.0 * 2 ^ 128 + k.0.1) (2 ^ 2304) keys differ are
      (λ k is. mul-add-lt (digits k.0.0) (2 ^ 128) k.0.1 (2 ^ 2176) (digits_in 17 k.0.0 (is.0, is.1)) is.2)
      (λ k l k_is l_is same.
      let places = same_by_places (2 ^ 128) (digits k.0.0) (digits l.0.0) k.0.1 l.0.1 k_is.2 l_is.2 same in
      tell k l k_is l_is (digits_tell 17 k.0.0 l.0.0 (k_is.0, k_is.1) (l_is.0, l_is.1) places.0) places.1)

module _ (s t : List ℕ) (s_is : IsText s) (t_is : IsText t) (low high : ℕ) (within : low + high ≤ 64) (keys : List Key)
    (are : All IsKey keys) (differ : AllPairs ◌≢◌ keys)
    (have : All (λ (key : Key). (map_hash key.0.0 key.0.1 key.1 s % 2 ^ low ≡ map_hash key.0.0 key.0.1 key.1 t % 2 ^ low)
    × (map_hash key.0.0 key.0.1 key.1 s / 2 ^ (64 - high) ≡ map_hash key.0.0 key.0.1 key.1 t / 2 ^ (64 - high))) keys) where
  -- the keys for texts at which the words are the same
  mark : ℕ → Bool
  mark i = nat_eq (le (take 128 s)) (le (take 128 t)) && nat_eq (last_word i (drop 128 s)) (last_word i (drop 128 t))

  marked : (i : ℕ) → mark i ≡ true → Same i s t
  unfolding mark
  marked i has = grind (arith, nat_tests, common_steps, both_parts, eqb-true)

  unmarked : (i : ℕ) → mark i ≡ false → key_words i s ≢ key_words i t
  unfolding mark
  unmarked i lacks same = grind (arith, nat_tests, common_steps, true≢false, eq-eqb, numbers_same, last_same)

  abbrev of_key : Key → ℕ
  of_key key = key.1

  abbrev kept : ℕ → List Key
  kept i = filter (having of_key i) keys

  kept_are : (i : ℕ) → All (IsAt i) (kept i)
  unfolding having
  kept_are i j d h =
      let key = get_or (kept i) j d in
      let is = All-filter (having of_key i) IsKey keys are j d h in
      (is.0, is.1, is.2, eqb-true key.1 i (filter_passes (having of_key i) keys j d h))

  kept_differ : (i : ℕ) → AllPairs ◌≢◌ (kept i)
  kept_differ i = AllPairs-filter ◌≢◌ (having of_key i) keys differ

  all_here : (i : ℕ) → count_by (having of_key i) keys ≤ 2 ^ 2304
  all_here i = omega (arith, all_at i (kept i) (kept_are i) (kept_differ i), length-filter (having of_key i) keys)

  few_here : (i : ℕ) → mark i ≡ false → count_by (having of_key i) keys ≤ 2 ^ (2304 - low - high)
  unfolding having
  few_here i lacks =
      let few = few_at i (key_words i s) (key_words i t) low high (kept i) (key_words_are i s s_is) (key_words_are i t t_is) (unmarked i lacks) within
      (kept_are i) (kept_differ i)
      (λ j d h.
      let key = get_or (kept i) j d in
      let there : key.1 ≡ i = (kept_are i j d h).3 in
      let both = All-filter (having of_key i) (λ (k : Key). (map_hash k.0.0 k.0.1 k.1 s % 2 ^ low ≡ map_hash k.0.0 k.0.1 k.1 t % 2 ^ low)
      × (map_hash k.0.0 k.0.1 k.1 s / 2 ^ (64 - high) ≡ map_hash k.0.0 k.0.1 k.1 t / 2 ^ (64 - high))) keys have j d h in
      subst (λ n. (map_hash key.0.0 key.0.1 n s % 2 ^ low ≡ map_hash key.0.0 key.0.1 n t % 2 ^ low)
      × (map_hash key.0.0 key.0.1 n s / 2 ^ (64 - high) ≡ map_hash key.0.0 key.0.1 n t / 2 ^ (64 - high))) there both) in
      omega (arith, few, length-filter (having of_key i) keys)

  pub few_in_all_keys : NeitherBegins s t → length keys
      ≤ prime61 * 2 ^ (2304 - low - high) + (max (word_count (drop 128 s)) (word_count (drop 128 t)) + 1) * 2 ^ 2304
  few_in_all_keys neither =
      let most = few_but_those of_key mark prime61 (2 ^ (2304 - low - high)) (2 ^ 2304) keys (λ j d h. (are j d h).3)
      (λ i i_in lacks. few_here i lacks) (λ i i_in. all_here i) in
      let bad = few_same_parts s t (those mark prime61) s_is t_is neither
      record { below = those_below mark prime61; differ = those_differ mark prime61 }
      (λ j d h. marked (get_or (those mark prime61) j d) (those_marked mark prime61 j d h)) in
      omega (arith, most)

pub few_for_two : (s t : List ℕ) (low high : ℕ) (keys : List Key) → IsText s → IsText t → NeitherBegins s t → low + high ≤ 64 → AreMapKeys keys
    → All (λ key. (map_hash key.0.0 key.0.1 key.1 s % 2 ^ low ≡ map_hash key.0.0 key.0.1 key.1 t % 2 ^ low)
    × (map_hash key.0.0 key.0.1 key.1 s / 2 ^ (64 - high) ≡ map_hash key.0.0 key.0.1 key.1 t / 2 ^ (64 - high))) keys
    → length keys ≤ prime61 * 2 ^ (2304 - low - high) + (max (word_count (drop 128 s)) (word_count (drop 128 t)) + 1) * 2 ^ 2304
few_for_two s t low high keys s_is t_is neither within are have =
    few_in_all_keys s t s_is t_is low high within keys are.below are.differ have neither
