-- Under few pairs of keys two different texts have one pair of hashes.
use Rattle.std.proofs.lemmas.Bool.Decides.{nat_tests}
use Rattle.hash_keyed.proofs.Common.{ℕ, zero, suc, ◌≡◌, ◌≢◌, ◌+◌, ◌-◌, ◌*◌, ◌^◌, ◌<◌, ◌≤◌, max, Bool, true, not, cond, eqb, List, [], ◌∷◌, length, get_or, map, filter, All, refl, sym, ap, ◌∙◌, arith, pow-zero, eq-eqb, eqb-false, not-true, length-map, get_or-map, All-nil, All-cons, All-filter, All-map, filter_passes, length-filter_both, AllPairs-cons, AllPairs-filter, IsText, prime61, word_count, AreKeys, ArePairs, poly61, MeetAtBoth, pow-suc, eqb-true, common_steps}
use Rattle.hash_keyed.proofs.Collisions.{Few, few_keys_meet}

abbrev Pair : Type 0
Pair = ℕ × ℕ

has_first : ℕ → Pair → Bool
has_first key pair = eqb pair.0 key

has_other : ℕ → Pair → Bool
has_other key pair = not (eqb pair.0 key)

filtered_pairs : (p : ℕ) (test : Pair → Bool) (pairs : List Pair) → ArePairs p pairs → ArePairs p (filter test pairs)
filtered_pairs p test pairs are = record {
  below = All-filter test (λ pair. (pair.0 < p) × (pair.1 < p)) pairs are.below;
  differ = AllPairs-filter ◌≢◌ test pairs are.differ;
}

-- pairs that have one first key differ in the second
seconds : (p key : ℕ) (pairs : List Pair) → ArePairs p pairs → All (λ pair. pair.0 ≡ key) pairs → AreKeys p (map (λ pair. pair.1) pairs)
seconds p key pairs are first = record {
  below = All-map (λ k. k < p) (λ (pair : Pair). pair.1) pairs (λ i d h. (are.below i d h).1);
  differ = λ i j d less within.
      let long = length-map pairs (λ (pair : Pair). pair.1) in
      let at = λ (k : ℕ) (k_in : k < length pairs). get_or-map (λ (pair : Pair). pair.1) pairs k (d, d) d k_in in
      grind (arith, nat_tests, common_steps);
}

-- two tests of keys that few keys pass
module _ (p b : ℕ) (one two : ℕ → Bool) (few_one : Few p one b) (few_two : Few p two b) where
  abbrev Pass : List Pair → Type 0
  Pass pairs = All (λ pair. (one pair.0 ≡ true) × (two pair.1 ≡ true)) pairs

  -- pairs that have one first key
  few_of_first : (key : ℕ) (pairs : List Pair) → ArePairs p pairs → Pass pairs → All (λ pair. pair.0 ≡ key) pairs → length pairs ≤ b
  unfolding Few
  few_of_first key pairs are pass first =
      omega (
        arith,
        few_two (map (λ (pair : Pair). pair.1) pairs) (seconds p key pairs are first)
            (All-map (λ k. two k ≡ true) (λ (pair : Pair). pair.1) pairs (λ i d h. (pass i d h).1)),
        length-map pairs (λ (pair : Pair). pair.1),
      )

  -- pairs whose first keys are none of some that pass the test: for each of these there are b pairs less
  by_firsts : (n : ℕ) (firsts : List ℕ) (pairs : List Pair) → length pairs ≤ n → AreKeys p firsts → All (λ k. one k ≡ true) firsts
      → All (λ k. All (λ pair. k ≢ pair.0) pairs) firsts → ArePairs p pairs → Pass pairs → length pairs ≤ (b - length firsts) * b
  unfolding Few has_first has_other
  by_firsts n firsts [] few keys ones new are pass = omega arith
  by_firsts zero firsts (pair ∷ pairs) few keys ones new are pass = absurd (omega arith)
  by_firsts (suc n) firsts (pair ∷ pairs) few keys ones new are pass =
      let key = pair.0 in
      let all = pair ∷ pairs in
      let same = filter (has_first key) all in
      let others = filter (has_other key) all in
      let sum = length-filter_both (has_first key) (has_other key) (λ x. refl) all in
      let some : length same ≡ suc (length (filter (has_first key) pairs)) =
      ap (λ t. length (cond t (pair ∷ filter (has_first key) pairs) (filter (has_first key) pairs))) (eq-eqb key key refl) in
      let more : AreKeys p (key ∷ firsts) = record {
        below = All-cons (λ k. k < p) key firsts ((are.below 0 pair (omega arith)).0) keys.below;
        differ = AllPairs-cons ◌≢◌ key firsts (λ i d h. λ e. new i d h 0 pair (omega arith) (sym e)) keys.differ;
      } in
      let passes = All-cons (λ k. one k ≡ true) key firsts ((pass 0 pair (omega arith)).0) ones in
      let most = few_one (key ∷ firsts) more passes in
      let head = few_of_first key same (filtered_pairs p (has_first key) all are)
      (All-filter (has_first key) (λ q. (one q.0 ≡ true) × (two q.1 ≡ true)) all pass)
      (λ i d h. eqb-true ((get_or same i d).0) key (filter_passes (has_first key) all i d h)) in
      let rest = by_firsts n (key ∷ firsts) others (omega (arith, sum, some, few)) more passes
      (All-cons (λ k. All (λ q. k ≢ q.0) others) key firsts
      (λ i d h. λ e. eqb-false ((get_or others i d).0) key (not-true (eqb ((get_or others i d).0) key) (filter_passes (has_other key) all i d h)) (sym e))
      (λ i d h. All-filter (has_other key) (λ q. get_or firsts i d ≢ q.0) all (new i d h)))
      (filtered_pairs p (has_other key) all are)
      (All-filter (has_other key) (λ q. (one q.0 ≡ true) × (two q.1 ≡ true)) all pass) in
      let one_less : suc (b - length (key ∷ firsts)) ≡ b - length firsts = omega (arith, most) in
      let left = b - length (key ∷ firsts) in
      let one_more : b + left * b ≡ suc left * b = omega arith in
      let product : b + left * b ≡ (b - length firsts) * b = one_more ∙ ap (λ z. z * b) one_less in
      omega (arith, sum, head, rest, product)

  pub few_pairs : (pairs : List Pair) → ArePairs p pairs → Pass pairs → length pairs ≤ b * b
  few_pairs pairs are pass =
      let none : b - 0 ≡ b = omega arith in
      omega (
        arith,
        ap (λ z. z * b) none,
        by_firsts (length pairs) [] pairs (omega arith) (record { below = All-nil (λ k. k < p); differ = λ i j d less within. absurd (omega arith) })
            (All-nil (λ k. one k ≡ true)) (All-nil (λ k. All (λ pair. k ≢ pair.0) pairs)) are pass,
      )

square : (b : ℕ) → b * b ≡ b ^ 2
square b = grind (arith, nat_tests, common_steps, pow-suc, pow-zero)

pub few_pairs_meet : (s t : List ℕ) (pairs : List Pair) → IsText s → IsText t → s ≢ t → ArePairs prime61 pairs → All (MeetAtBoth s t) pairs
    → length pairs ≤ (max (word_count s) (word_count t) + 1) ^ 2
unfolding Few
few_pairs_meet s t pairs s_is t_is differ are meet =
    let b = max (word_count s) (word_count t) + 1 in
    let test = λ (key : ℕ). eqb (poly61 key s) (poly61 key t) in
    let few : Few prime61 test b = λ keys keys_are pass.
    few_keys_meet s t keys s_is t_is differ keys_are (λ i d h. eqb-true (poly61 (get_or keys i d) s) (poly61 (get_or keys i d) t) (pass i d h)) in
    omega (
      arith,
      square b,
      few_pairs prime61 b test test few few pairs are
          (λ i d h. grind (arith, nat_tests, common_steps, eq-eqb)),
    )
