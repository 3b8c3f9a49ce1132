-- The steps of FNV-1 undone: they stay in range and are injective.
use Rattle.std.proofs.Common.{◌≡◌, ℕ, ◌*◌, ◌%◌, ◌^◌, ◌<◌, ◌≤◌, bit_xor, refl, lit≤, arith}
use Rattle.hash_laws.specs.StepFacts.{StepFacts}
use Rattle.hash_laws.specs.FnvParts.{fnv1_step}
use Rattle.hash_words.specs.Undoes.{UndoesWords}
use Rattle.hash_words.proofs.UndoLemmas.{◌▷◌, told, xored, xored_onto, multiplied}
use Rattle.hash_words.proofs.XorLemmas.{xored_64}
use Rattle.hash_more.specs.Fnv1.{fnv1_32_step, fnv1_64_step}

-- a product by a prime that q undoes, and then an exclusive or
module _ (w p q : ℕ) (wide : 256 ≤ 2 ^ w) (unit : p * q % 2 ^ w ≡ 1) where
  of_state : (b : ℕ) → b < 256 → UndoesWords w (λ h. fnv1_step w p h b) (λ h. bit_xor h b * q % 2 ^ w)
  of_state b sb = multiplied w p q unit ▷ xored w b (omega (arith, wide, sb))

  fnv1_facts : StepFacts (fnv1_step w p) (2 ^ w) 256
  fnv1_facts = record {
    in_range = λ h b hs sb. (of_state b sb).there_in h hs;
    state_injective = λ h k b hs ks sb e. told (of_state b sb) h k hs ks e;
    item_injective = λ h a b hs sa sb e.
        told (xored_onto w (h * p % 2 ^ w) ((multiplied w p q unit).there_in h hs)) a b (omega (arith, wide, sa)) (omega (arith, wide, sb)) e;
  }

pub fnv1_32_facts : StepFacts fnv1_32_step (2 ^ 32) 256
fnv1_32_facts = fnv1_facts 32 16777619 899433627 (lit≤ tt) refl

pub fnv1_32_back : (h b : ℕ) → h < 2 ^ 32 → b < 256 → fnv1_32_step (bit_xor h b * 899433627 % 2 ^ 32) b ≡ h
fnv1_32_back h b hs sb = (of_state 32 16777619 899433627 (lit≤ tt) refl b sb).there h hs

pub fnv1_64_facts : StepFacts fnv1_64_step (2 ^ 64) 256
fnv1_64_facts = fnv1_facts 64 1099511628211 0xce965057aff6957b (lit≤ tt) refl

-- the bound on a word and a product is too far for the search
pub fnv1_64_in_range : (h b : ℕ) → b < 256 → fnv1_64_step h b < 2 ^ 64
fnv1_64_in_range h b sb = xored_64 (h * 1099511628211 % 2 ^ 64) b (omega arith) sb

pub fnv1_64_back : (h b : ℕ) → h < 2 ^ 64 → b < 256 → fnv1_64_step (bit_xor h b * 0xce965057aff6957b % 2 ^ 64) b ≡ h
fnv1_64_back h b hs sb = (of_state 64 1099511628211 0xce965057aff6957b (lit≤ tt) refl b sb).there h hs
