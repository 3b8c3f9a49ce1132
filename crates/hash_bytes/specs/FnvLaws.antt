-- The steps of FNV-1a undone: they stay in range and are injective.
use Rattle.std.proofs.Common.{◌≡◌, ℕ, ◌*◌, ◌%◌, ◌^◌, ◌<◌, ◌≤◌, bit_xor, refl, lit≤, arith}
use Rattle.hash_laws.specs.StepFacts.{StepFacts}
use Rattle.hash_words.specs.Undoes.{UndoesWords}
use Rattle.hash_words.proofs.UndoLemmas.{◌▷◌, told, xored, xored_onto, multiplied}
use Rattle.hash_bytes.specs.Fnv.{fnv1a32_step, fnv1a64_step}

-- an exclusive or, and then a product by p that q undoes
module _ (w p q : ℕ) (wide : 256 ≤ 2 ^ w) (unit : p * q % 2 ^ w ≡ 1) where
  of_state : (b : ℕ) → b < 256 → UndoesWords w (λ h. bit_xor h b * p % 2 ^ w) (λ h. bit_xor (h * q % 2 ^ w) b)
  of_state b sb = xored w b (omega (arith, wide, sb)) ▷ multiplied w p q unit

  product_facts : StepFacts (λ h b. bit_xor h b * p % 2 ^ w) (2 ^ w) 256
  product_facts = record {
    in_range = λ h b hs sb. (of_state b sb).there_in h hs;
    state_injective = λ h k b hs ks sb e. told (of_state b sb) h k hs ks e;
    item_injective = λ h a b hs sa sb e.
        told (xored_onto w h hs ▷ multiplied w p q unit) a b (omega (arith, wide, sa)) (omega (arith, wide, sb)) e;
  }

pub fnv1a32_product : UndoesWords 32 (λ y. y * 16777619 % 2 ^ 32) (λ y. y * 899433627 % 2 ^ 32)
fnv1a32_product = multiplied 32 16777619 899433627 refl

pub fnv1a32_facts : StepFacts fnv1a32_step (2 ^ 32) 256
fnv1a32_facts = product_facts 32 16777619 899433627 (lit≤ tt) refl

pub fnv1a32_back : (h b : ℕ) → h < 2 ^ 32 → b < 256 → fnv1a32_step (bit_xor (h * 899433627 % 2 ^ 32) b) b ≡ h
fnv1a32_back h b hs sb = (of_state 32 16777619 899433627 (lit≤ tt) refl b sb).there h hs

pub fnv1a64_product : UndoesWords 64 (λ y. y * 1099511628211 % 2 ^ 64) (λ y. y * 0xce965057aff6957b % 2 ^ 64)
fnv1a64_product = multiplied 64 1099511628211 0xce965057aff6957b refl

pub fnv1a64_facts : StepFacts fnv1a64_step (2 ^ 64) 256
fnv1a64_facts = product_facts 64 1099511628211 0xce965057aff6957b (lit≤ tt) refl

pub fnv1a64_back : (h b : ℕ) → h < 2 ^ 64 → b < 256 → fnv1a64_step (bit_xor (h * 0xce965057aff6957b % 2 ^ 64) b) b ≡ h
fnv1a64_back h b hs sb = (of_state 64 1099511628211 0xce965057aff6957b (lit≤ tt) refl b sb).there h hs
