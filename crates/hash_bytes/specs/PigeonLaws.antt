-- The step of Bricolage stays in range and is injective, and what undoes it.
use Rattle.std.proofs.Common.{◌≡◌, ℕ, ◌+◌, ◌-◌, ◌*◌, ◌%◌, ◌^◌, ◌<◌, sym, ap, ◌∙◌, arith}
use Rattle.std.proofs.lemmas.Nat.{mod_below, pow_pos}
use Rattle.hash_laws.specs.StepFacts.{StepFacts}
use Rattle.hash_words.specs.Words.{swap_halves}
use Rattle.hash_rounds.specs.Shuffle.{shuffle, unshuffle}
use Rattle.hash_rounds.proofs.ShuffleLemmas.{shuffle-lt, unshuffle-shuffle}
use Rattle.hash_bytes.specs.Pigeon.{bricolage_step}

pub swap_halves-lt : (x : ℕ) → x < 2 ^ 64 → swap_halves x < 2 ^ 64
swap_halves-lt x x_in = omega arith

swap_halves-same : (x y : ℕ) → x < 2 ^ 64 → y < 2 ^ 64 → swap_halves x ≡ swap_halves y → x ≡ y
swap_halves-same x y xs ys e = omega arith

swap_halves-twice : (x : ℕ) → x < 2 ^ 64 → swap_halves (swap_halves x) ≡ x
swap_halves-twice x xs = omega arith

-- different bytes have different shuffled products
shuffled_product-same : (a b : ℕ) → a < 256 → b < 256
    → shuffle (a * 173773926194192273 % 2 ^ 64) ≡ shuffle (b * 173773926194192273 % 2 ^ 64) → a ≡ b
shuffled_product-same a b sa sb e =
    let x = a * 173773926194192273 % 2 ^ 64 in
    let y = b * 173773926194192273 % 2 ^ 64 in
    let products : x ≡ y = sym (unshuffle-shuffle x (omega arith)) ∙ ap unshuffle e ∙ unshuffle-shuffle y (omega arith) in
    omega arith

-- what is added to a word, and taken away
sum_same_left : (h k s : ℕ) → h < 2 ^ 64 → k < 2 ^ 64 → (h + s) % 2 ^ 64 ≡ (k + s) % 2 ^ 64 → h ≡ k
sum_same_left h k s hs ks e = omega arith

sum_same_right : (h s t : ℕ) → s < 2 ^ 64 → t < 2 ^ 64 → (h + s) % 2 ^ 64 ≡ (h + t) % 2 ^ 64 → s ≡ t
sum_same_right h s t ss ts e = omega arith

sum_back : (h s : ℕ) → h < 2 ^ 64 → s < 2 ^ 64 → ((h + (2 ^ 64 - s)) % 2 ^ 64 + s) % 2 ^ 64 ≡ h
sum_back h s hs ss = omega arith

module _ (h k s t : ℕ) (e : swap_halves ((h + s) % 2 ^ 64) ≡ swap_halves ((k + t) % 2 ^ 64)) where
  bricolage_same_sum : (h + s) % 2 ^ 64 ≡ (k + t) % 2 ^ 64
  bricolage_same_sum = swap_halves-same _ _ (mod_below _ (2 ^ 64) (pow_pos 64)) (mod_below _ (2 ^ 64) (pow_pos 64)) e

pub bricolage_facts : StepFacts bricolage_step (2 ^ 64) 256
bricolage_facts = record {
  in_range = λ h b hs sb. swap_halves-lt _ (mod_below _ (2 ^ 64) (pow_pos 64));
  state_injective = λ h k b hs ks sb e.
      let s = shuffle (b * 173773926194192273 % 2 ^ 64) in sum_same_left h k s hs ks (bricolage_same_sum h k s s e);
  item_injective = λ h a b hs sa sb e.
      let s = shuffle (a * 173773926194192273 % 2 ^ 64) in
      let t = shuffle (b * 173773926194192273 % 2 ^ 64) in
      shuffled_product-same a b sa sb (sum_same_right h s t (shuffle-lt _) (shuffle-lt _) (bricolage_same_sum h h s t e));
}

pub bricolage_back : (h b : ℕ) → h < 2 ^ 64
    → bricolage_step ((swap_halves h + (2 ^ 64 - shuffle (b * 173773926194192273 % 2 ^ 64))) % 2 ^ 64) b ≡ h
bricolage_back h b hs =
    let s = shuffle (b * 173773926194192273 % 2 ^ 64) in
    ap swap_halves (sum_back (swap_halves h) s (swap_halves-lt h hs) (shuffle-lt _)) ∙ swap_halves-twice h hs
