-- The fx steps undone, by their words and by their states: they stay in range and are injective.
use Rattle.std.proofs.Common.{ℕ, ◌-◌, ◌*◌, ◌%◌, ◌^◌, ◌<◌, ◌≤◌, ◌≡◌, bit_xor, refl, lit≤}
use Rattle.std.proofs.lemmas.Nat.{xor_comm}
use Rattle.hash_words.specs.Undoes.{UndoesWords}
use Rattle.hash_words.specs.Words.{rotl}
use Rattle.hash_fx.specs.Fx.{fx64_step, fx32_step}
use Rattle.hash_laws.specs.StepFacts.{StepFacts}
use Rattle.hash_words.proofs.UndoLemmas.{◌▷◌, told, likewise, rotated, xored, xored_onto, multiplied}
use Rattle.hash_words.proofs.WordLemmas.{rotl-lt}

-- a step at w bits by a key that `unkey` undoes
module _ (w key unkey : ℕ) (wide : 5 ≤ w) (unit : key * unkey % 2 ^ w ≡ 1) where
  of_state : (v : ℕ) → v < 2 ^ w
      → UndoesWords w (λ h. bit_xor (rotl w h 5) v * key % 2 ^ w) (λ z. rotl w (bit_xor (z * unkey % 2 ^ w) v) (w - 5))
  of_state v v_in = rotated w 5 wide ▷ xored w v v_in ▷ multiplied w key unkey unit

  of_word : (h : ℕ) → h < 2 ^ w
      → UndoesWords w (λ v. bit_xor (rotl w h 5) v * key % 2 ^ w) (λ z. bit_xor (z * unkey % 2 ^ w) (rotl w h 5))
  of_word h h_in =
      likewise (λ v _. refl) (λ z _. xor_comm (z * unkey % 2 ^ w) (rotl w h 5))
      (xored_onto w (rotl w h 5) (rotl-lt w h 5 wide h_in) ▷ multiplied w key unkey unit)

  facts : StepFacts (λ h v. bit_xor (rotl w h 5) v * key % 2 ^ w) (2 ^ w) (2 ^ w)
  facts = record {
    in_range = λ h v hs vs. (of_state v vs).there_in h hs;
    state_injective = λ h k v hs ks vs e. told (of_state v vs) h k hs ks e;
    item_injective = λ h v u hs vs us e. told (of_word h hs) v u vs us e;
  }

pub fx64_facts : StepFacts fx64_step (2 ^ 64) (2 ^ 64)
fx64_facts = facts 64 0x517cc1b727220a95 0x2040003d780970bd (lit≤ tt) refl

pub fx32_facts : StepFacts fx32_step (2 ^ 32) (2 ^ 32)
fx32_facts = facts 32 0x27220a95 0x780970bd (lit≤ tt) refl

-- the one word that leads from a state to another
pub fx64_of_word : (h : ℕ) → h < 2 ^ 64 → UndoesWords 64 (fx64_step h) (λ z. bit_xor (z * 0x2040003d780970bd % 2 ^ 64) (rotl 64 h 5))
fx64_of_word = of_word 64 0x517cc1b727220a95 0x2040003d780970bd (lit≤ tt) refl

pub fx32_of_word : (h : ℕ) → h < 2 ^ 32 → UndoesWords 32 (fx32_step h) (λ z. bit_xor (z * 0x780970bd % 2 ^ 32) (rotl 32 h 5))
fx32_of_word = of_word 32 0x27220a95 0x780970bd (lit≤ tt) refl
