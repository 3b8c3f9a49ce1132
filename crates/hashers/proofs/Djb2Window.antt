-- Why two texts that differ within six places, and agree in the top three bits, have different djb2 hashes.
use Rattle.hashers.proofs.Common.{◌≡◌, ℕ, zero, suc, ◌+◌, ◌-◌, ◌*◌, ◌/◌, ◌%◌, ◌^◌, ◌<◌, ◌≤◌, ◌≢◌, arith, refl, sym, ap, ◌∙◌, bit_xor, bit_and, xor_shr, xor_lt, and_high, djb2_step, djb2_facts, Separates, xor_cancel, xor_cancel_left, xor_block_kept}
use Rattle.hash_theorems.proofs.WindowSpreads.{IsState32}

-- what a place leaves of a state's bits above the low eight
upper : (w b : ℕ) → b < 256 → bit_xor w b / 32 / 8 ≡ w / 32 / 8
upper w b small = ap (λ x. x / 8) (xor_shr w b 5) ∙ xor_block_kept 3 (w / 32) (b / 32) (omega arith)

-- two bytes that agree in the top three bits
same_top : (a b : ℕ) → a < 256 → b < 256 → bit_and a 224 ≡ bit_and b 224 → a / 32 ≡ b / 32
same_top a b small small' e = omega (arith, and_high a 3 5, and_high b 3 5)

djb2_step_below : (h b : ℕ) → h < 2 ^ 32 → b < 256 → djb2_step h b < 2 ^ 32
djb2_step_below h b hs bs = xor_lt 32 (33 * h % 2 ^ 32) b (omega arith) (omega arith)

-- two states differ, and their parts above the low five bits differ, modulo 2^27, by at most `spread` either way
pub record Near (spread h k : ℕ) : Type 0 where
  pub differ : h ≢ k
  pub close : (h / 32 + 2 ^ 27 - k / 32 + spread) % 2 ^ 27 ≤ 2 * spread

-- one place, in plain numbers: h and k go to w and x by the product, and these to y and z by the bytes
module _ (spread h k w x : ℕ) (fits : 33 * spread + 45 < 2 ^ 27) (hs : h < 2 ^ 32) (ks : k < 2 ^ 32)
    (ws : w ≡ 33 * h % 2 ^ 32) (xs : x ≡ 33 * k % 2 ^ 32) (close : (h / 32 + 2 ^ 27 - k / 32 + spread) % 2 ^ 27 ≤ 2 * spread) where
  close_next : (y z : ℕ) → y < 2 ^ 32 → z < 2 ^ 32 → y / 32 / 8 ≡ w / 32 / 8 → z / 32 / 8 ≡ x / 32 / 8
      → (y / 32 + 2 ^ 27 - z / 32 + (33 * spread + 45)) % 2 ^ 27 ≤ 2 * (33 * spread + 45)
  close_next y z ys zs yw zx = omega arith

  same_before : w / 32 ≡ x / 32 → h ≡ k
  same_before e = omega arith

Near-next : (spread h k a b : ℕ) → 33 * spread + 45 < 2 ^ 27 → h < 2 ^ 32 → k < 2 ^ 32 → a < 256 → b < 256 → a / 32 ≡ b / 32
    → Near spread h k → Near (33 * spread + 45) (djb2_step h a) (djb2_step k b)
Near-next spread h k a b fits hs ks sa sb top near =
    let w = 33 * h % 2 ^ 32 in
    let x = 33 * k % 2 ^ 32 in
    record {
      differ = λ e. near.differ (same_before spread h k w x fits hs ks refl refl near.close
          (xor_cancel (w / 32) (x / 32) (b / 32)
          (ap (bit_xor (w / 32)) (sym top) ∙ sym (xor_shr w a 5) ∙ ap (λ y. y / 32) e ∙ xor_shr x b 5)));
      close = close_next spread h k w x fits hs ks refl refl near.close (djb2_step h a) (djb2_step k b)
          (djb2_step_below h a hs sa) (djb2_step_below k b ks sb) (upper w a sa) (upper x b sb);
    }

-- how far apart the upper parts can be after n further places
abbrev pub spread_after : ℕ → ℕ
spread_after zero = 0
spread_after (suc n) = 33 * spread_after n + 45

spread_fits : (n : ℕ) → suc n < 6 → 33 * spread_after n + 45 < 2 ^ 27
spread_fits zero h = omega arith
spread_fits (suc zero) h = omega arith
spread_fits (suc (suc zero)) h = omega arith
spread_fits (suc (suc (suc zero))) h = omega arith
spread_fits (suc (suc (suc (suc zero)))) h = omega arith
spread_fits (suc (suc (suc (suc (suc n))))) h = absurd (omega arith)

pub djb2_separates : Separates djb2_step IsState32 6 224 (λ n. Near (spread_after n))
djb2_separates = record {
  in_range = djb2_facts.in_range;
  state_injective = djb2_facts.state_injective;
  first = λ h a b hs sa sb top ne. record {
    differ = λ e. ne (xor_cancel_left (33 * h % 2 ^ 32) a b e);
    close =
        let w = 33 * h % 2 ^ 32 in
        let e : djb2_step h a / 32 ≡ djb2_step h b / 32 = xor_shr w a 5 ∙ ap (bit_xor (w / 32)) (same_top a b sa sb top)
        ∙ sym (xor_shr w b 5) in
        omega arith;
  };
  next = λ n h k a b fits hs ks sa sb top near. Near-next (spread_after n) h k a b (spread_fits n fits) hs ks sa sb
      (same_top a b sa sb top) near;
  apart = λ n h k near. near.differ;
}
