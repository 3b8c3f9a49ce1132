-- The step and the last mix of one-at-a-time at 32 bits stay in range and are injective, and what undoes them.
use Rattle.std.proofs.Common.{◌≡◌, ℕ, ◌+◌, ◌-◌, ◌*◌, ◌%◌, ◌^◌, ◌<◌, ap, ◌∙◌, refl, lit≤, arith}
use Rattle.hash_laws.specs.StepFacts.{StepFacts}
use Rattle.hash_words.specs.Undoes.{UndoesWords}
use Rattle.hash_words.specs.Words.{xorshift}
use Rattle.hash_words.proofs.UndoLemmas.{◌▷◌, told, added, added_onto, multiplied_onto, shifted_by, shifts}
use Rattle.hash_more.specs.Joaat.{joaat_step, joaat_answer}

mixed : UndoesWords 32 (λ x. xorshift (1025 * x % 2 ^ 32) 6) (λ y. shifts 6 6 y * 3222273025 % 2 ^ 32)
mixed = multiplied_onto 32 1025 3222273025 refl ▷ shifted_by 6 32 6 (lit≤ tt)

pub joaat_facts : StepFacts joaat_step (2 ^ 32) 256
joaat_facts = record {
  in_range = λ h b hs sb. (added 32 b (omega arith) ▷ mixed).there_in h hs;
  state_injective = λ h k b hs ks sb e. told (added 32 b (omega arith) ▷ mixed) h k hs ks e;
  item_injective = λ h a b hs sa sb e. told (added_onto 32 h hs ▷ mixed) a b (omega arith) (omega arith) e;
}

-- y is the word that the shift is undone to
pub joaat_back : (h b y : ℕ) → y < 2 ^ 32 → b < 256 → xorshift y 6 ≡ h
    → joaat_step ((y * 3222273025 % 2 ^ 32 + (2 ^ 32 - b)) % 2 ^ 32) b ≡ h
joaat_back h b y ys sb solves =
    ap (λ z. xorshift z 6) ((added 32 b (omega arith) ▷ multiplied_onto 32 1025 3222273025 refl).there y ys) ∙ solves

pub joaat_answer_same : (h k : ℕ) → h < 2 ^ 32 → k < 2 ^ 32 → joaat_answer h ≡ joaat_answer k → h ≡ k
joaat_answer_same =
    told (multiplied_onto 32 9 954437177 refl ▷ shifted_by 6 32 11 (lit≤ tt) ▷ multiplied_onto 32 32769 1073709057 refl)

-- y is the word that the shift is undone to
pub joaat_unanswer_back : (a y : ℕ) → a < 2 ^ 32 → y < 2 ^ 32 → xorshift y 11 ≡ a * 1073709057 % 2 ^ 32
    → joaat_answer (y * 954437177 % 2 ^ 32) ≡ a
joaat_unanswer_back a y a_in ys solves =
    ap (λ z. 32769 * xorshift z 11 % 2 ^ 32) ((multiplied_onto 32 9 954437177 refl).there y ys) ∙ ap (λ z. 32769 * z % 2 ^ 32) solves
    ∙ (multiplied_onto 32 32769 1073709057 refl).there a a_in

pub joaat_answer_below : (h : ℕ) → joaat_answer h < 2 ^ 32
joaat_answer_below h = omega arith
