-- Under few keys two different texts come into one bucket.
use Rattle.std.proofs.lemmas.Bool.Decides.{nat_tests}
use Rattle.std.proofs.Common.{rules}
use Rattle.hash_keyed.proofs.Common.{ℕ, zero, suc, ◌≡◌, ◌≢◌, ◌+◌, ◌-◌, ◌*◌, ◌/◌, ◌%◌, ◌^◌, ◌<◌, ◌≤◌, max, Bool, true, false, ◌||◌, eqb, List, length, get_or, fold, All, sym, ap, ◌∙◌, inl, inr, ⊎_elim, arith, lit<, le_refl, add-zero, mod-lt, mul-add, div-mul-le_self, add-mul-mod_self_right, div-add-mod, mul-le, le-div, pow-add, cases_lt, cases_order, eq-eqb, or_left, or_right, IsText, prime61, word_count, words, poly_step, poly_hash, AreKeys, as_word, poly61, mod-eq_of_lt, pow_pos, eqb-true, common_steps}
use Rattle.hash_keyed.proofs.Collisions.{Few, few_none, few_or, few_more, few_keys_differ}

-- the first value is the second and up to q times n, modulo the prime
above : List ℕ → List ℕ → ℕ → ℕ → ℕ → Bool
above s t n zero key = false
above s t n (suc q) key = eqb (poly_hash prime61 key s) ((poly_hash prime61 key t + n * suc q) % prime61) || above s t n q key

above_at : (key n i q : ℕ) (s t : List ℕ) → 1 ≤ i → i ≤ q → poly_hash prime61 key s ≡ (poly_hash prime61 key t + n * i) % prime61
    → above s t n q key ≡ true
unfolding above
above_at key n i zero s t some few same = absurd (omega arith)
above_at key n i (suc q) s t some few same = elim (cases_order i (suc q)) [
  | inl last ↦
      or_left (eqb (poly_hash prime61 key s) ((poly_hash prime61 key t + n * suc q) % prime61)) (above s t n q key)
      (eq-eqb (poly_hash prime61 key s) ((poly_hash prime61 key t + n * suc q) % prime61)
      (same ∙ ap (λ k. (poly_hash prime61 key t + n * k) % prime61) last))
  | inr (inl less) ↦
      or_right (eqb (poly_hash prime61 key s) ((poly_hash prime61 key t + n * suc q) % prime61)) (above s t n q key)
      (above_at key n i q s t some (omega arith) same)
  | inr (inr more) ↦ absurd (omega arith)
]

module _ (s t : List ℕ) (s_is : IsText s) (t_is : IsText t) (differ : s ≢ t) (n : ℕ) where
  few_at : (c : ℕ) → Few prime61 (λ key. eqb (poly_hash prime61 key s) ((poly_hash prime61 key t + c) % prime61)) (max (word_count s) (word_count t) + 1)
  unfolding Few
  few_at c keys are pass =
      few_keys_differ s t c keys s_is t_is differ are
      (λ k d h. eqb-true (poly_hash prime61 (get_or keys k d) s) ((poly_hash prime61 (get_or keys k d) t + c) % prime61) (pass k d h))

  few_above : (q : ℕ) → Few prime61 (above s t n q) (q * (max (word_count s) (word_count t) + 1))
  unfolding above
  few_above zero = few_more prime61 (λ key. false) 0 (0 * (max (word_count s) (word_count t) + 1)) (omega arith) (few_none prime61)
  few_above (suc q) =
      let most = max (word_count s) (word_count t) + 1 in
      few_more prime61 (above s t n (suc q)) (most + q * most) (suc q * most) (omega arith)
      (few_or prime61 (λ key. eqb (poly_hash prime61 key s) ((poly_hash prime61 key t + n * suc q) % prime61)) (above s t n q) most (q * most)
      (few_at (n * suc q)) (few_above q))

-- numbers of one remainder differ by a multiple
apart_by : (n v w p : ℕ) → 0 < n → v % n ≡ w % n → w < v → v < p → (i : ℕ) × (1 ≤ i) × (i ≤ p / n) × (v ≡ w + n * i)
apart_by n v w p some same less below =
    let a = v / n in
    let b = w / n in
    let dv = div-add-mod v n in
    let dw = div-add-mod w n in
    let more : b < a = ⊎_elim (λ h. h) (λ h. absurd (omega (arith, dv, dw, same, mul-le n a n b (le_refl n) h))) (cases_lt b a) in
    let sum : b + (a - b) ≡ a = omega arith in
    grind (arith, nat_tests, common_steps, mul-add, le-div, div-mul-le_self)

value-below : (key : ℕ) (text : List ℕ) → poly_hash prime61 key text < prime61
value-below key text = mod-lt (fold (poly_step prime61 key) 1 (words text) * key) (lit< tt)

-- a value that lies above another in its bucket
above_by : (key n : ℕ) (s t : List ℕ) → 0 < n → poly_hash prime61 key s % n ≡ poly_hash prime61 key t % n
    → poly_hash prime61 key t < poly_hash prime61 key s → above s t n (prime61 / n) key ≡ true
above_by key n s t some same less =
    let by = apart_by n (poly_hash prime61 key s) (poly_hash prime61 key t) prime61 some same less (value-below key s) in
    above_at key n by.0 (prime61 / n) s t by.1 by.2
    (sym (mod-eq_of_lt (value-below key s)) ∙ ap (λ z. z % prime61) by.3)

same_or_above : ℕ → List ℕ → List ℕ → ℕ → Bool
same_or_above n s t key =
    eqb (poly_hash prime61 key s) ((poly_hash prime61 key t + 0) % prime61) || (above s t n (prime61 / n) key || above t s n (prime61 / n) key)

shares : (key n : ℕ) (s t : List ℕ) → 0 < n → poly_hash prime61 key s % n ≡ poly_hash prime61 key t % n → same_or_above n s t key ≡ true
unfolding same_or_above
shares key n s t some same = search (rules, above, cases_order, or_left, eq-eqb, mod-eq_of_lt, value-below, add-zero, or_right, above_by)

few_shares : (s t : List ℕ) (n : ℕ) → IsText s → IsText t → s ≢ t
    → Few prime61 (same_or_above n s t) ((2 * (prime61 / n) + 1) * (max (word_count s) (word_count t) + 1))
unfolding same_or_above
few_shares s t n s_is t_is differ =
    let q = prime61 / n in
    let most = max (word_count s) (word_count t) + 1 in
    let turned = max (word_count t) (word_count s) + 1 in
    let e : q * turned ≡ q * most = ap (λ z. q * z) (let m : turned ≡ most = omega arith in m) in
    few_more prime61 (same_or_above n s t) (most + (q * most + q * turned)) ((2 * q + 1) * most) (omega (arith, e))
    (few_or prime61 (λ key. eqb (poly_hash prime61 key s) ((poly_hash prime61 key t + 0) % prime61)) (λ key. above s t n q key || above t s n q key)
    most (q * most + q * turned) (few_at s t s_is t_is differ n 0)
    (few_or prime61 (above s t n q) (above t s n q) (q * most) (q * turned) (few_above s t s_is t_is differ n q)
    (few_above t s t_is s_is (λ same. differ (sym same)) n q)))

pub few_keys_share : (s t : List ℕ) (n : ℕ) (keys : List ℕ) → IsText s → IsText t → s ≢ t → 1 ≤ n → AreKeys prime61 keys
    → All (λ key. poly_hash prime61 key s % n ≡ poly_hash prime61 key t % n) keys
    → length keys ≤ (2 * (prime61 / n) + 1) * (max (word_count s) (word_count t) + 1)
unfolding Few
few_keys_share s t n keys s_is t_is differ some are share =
    few_shares s t n s_is t_is differ keys are (λ k d h. shares (get_or keys k d) n s t some (share k d h))

-- the value is the low 61 bits of the hash
low_bits : (key : ℕ) (text : List ℕ) → poly61 key text % 2 ^ 61 ≡ poly_hash prime61 key text
low_bits key text = grind (arith, nat_tests, common_steps, value-below key text)

pub few_keys_share_low : (s t : List ℕ) (n : ℕ) (keys : List ℕ) → IsText s → IsText t → s ≢ t → 1 ≤ n → AreKeys prime61 keys
    → All (λ key. poly61 key s % 2 ^ 61 % n ≡ poly61 key t % 2 ^ 61 % n) keys
    → length keys ≤ (2 * (prime61 / n) + 1) * (max (word_count s) (word_count t) + 1)
few_keys_share_low s t n keys s_is t_is differ some are share = grind (arith, nat_tests, common_steps, few_keys_share, low_bits)

pub few_keys_share_bits : (s t : List ℕ) (bits : ℕ) (keys : List ℕ) → IsText s → IsText t → s ≢ t → bits ≤ 61 → AreKeys prime61 keys
    → All (λ key. poly61 key s % 2 ^ bits ≡ poly61 key t % 2 ^ bits) keys
    → length keys ≤ (2 * (prime61 / 2 ^ bits) + 1) * (max (word_count s) (word_count t) + 1)
few_keys_share_bits s t bits keys s_is t_is differ within are share =
    few_keys_share s t (2 ^ bits) keys s_is t_is differ (pow_pos bits) are
    (λ k d h. sym (low (poly_hash prime61 (get_or keys k d) s)) ∙ share k d h ∙ low (poly_hash prime61 (get_or keys k d) t))
  where
    low : (v : ℕ) → as_word v % 2 ^ bits ≡ v % 2 ^ bits
    low v =
        let e : 61 - bits + bits ≡ 61 = omega arith in
        grind (arith, nat_tests, common_steps, pow-add 2 (61 - bits) bits, add-mul-mod_self_right v (v % 8 * 2 ^ (61 - bits)) (2 ^ bits))
