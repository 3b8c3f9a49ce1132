-- The step and the last mix of one-at-a-time stay in range and are injective, and what undoes them.
use Rattle.std.proofs.Common.{◌≡◌, ℕ, ◌+◌, ◌-◌, ◌*◌, ◌%◌, ◌^◌, ◌<◌, ap, ◌∙◌, refl, lit≤, arith}
use Rattle.hash_laws.specs.StepFacts.{StepFacts}
use Rattle.hash_words.specs.Undoes.{UndoesWords}
use Rattle.hash_words.specs.Words.{xorshift}
use Rattle.hash_words.proofs.UndoLemmas.{◌▷◌, told, added, added_onto, multiplied_onto, shifted_by, shifts}
use Rattle.hash_jenkins.specs.Oaat.{oaat_step, oaat_finish}

mixed : UndoesWords 64 (λ x. xorshift (1025 * x % 2 ^ 64) 6) (λ y. shifts 6 6 y * 1151796703138937857 % 2 ^ 64)
mixed = multiplied_onto 64 1025 1151796703138937857 refl ▷ shifted_by 6 64 6 (lit≤ tt)

pub oaat_facts : StepFacts oaat_step (2 ^ 64) 256
oaat_facts = record {
  in_range = λ h b hs sb. (added 64 b (omega arith) ▷ mixed).there_in h hs;
  state_injective = λ h k b hs ks sb e. told (added 64 b (omega arith) ▷ mixed) h k hs ks e;
  item_injective = λ h a b hs sa sb e. told (added_onto 64 h hs ▷ mixed) a b (omega arith) (omega arith) e;
}

-- y is the word that the shift is undone to
pub oaat_back : (h b y : ℕ) → y < 2 ^ 64 → b < 256 → xorshift y 6 ≡ h
    → oaat_step ((y * 1151796703138937857 % 2 ^ 64 + (2 ^ 64 - b)) % 2 ^ 64) b ≡ h
oaat_back h b y ys sb solves =
    ap (λ z. xorshift z 6) ((added 64 b (omega arith) ▷ multiplied_onto 64 1025 1151796703138937857 refl).there y ys) ∙ solves

pub oaat_finish_same : (h k : ℕ) → h < 2 ^ 64 → k < 2 ^ 64 → oaat_finish h ≡ oaat_finish k → h ≡ k
oaat_finish_same =
    told (multiplied_onto 64 9 10248191152060862009 refl ▷ shifted_by 6 64 11 (lit≤ tt) ▷ multiplied_onto 64 32769 1152886321308467201 refl)

-- y is the word that the shift is undone to
pub oaat_unfinish_back : (a y : ℕ) → a < 2 ^ 64 → y < 2 ^ 64 → xorshift y 11 ≡ a * 1152886321308467201 % 2 ^ 64
    → oaat_finish (y * 10248191152060862009 % 2 ^ 64) ≡ a
oaat_unfinish_back a y a_in ys solves =
    ap (λ z. 32769 * xorshift z 11 % 2 ^ 64) ((multiplied_onto 64 9 10248191152060862009 refl).there y ys) ∙ ap (λ z. 32769 * z % 2 ^ 64) solves
    ∙ (multiplied_onto 64 32769 1152886321308467201 refl).there a a_in
