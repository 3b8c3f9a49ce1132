-- No state of fx favours an answer.
use Rattle.hash_theorems.proofs.FxCommon.{◌≡◌, ℕ, ◌^◌, ◌<◌, List, [], ◌∷◌, length, refl, ap, ◌∙◌, arith, drop_all, le-lt, le-same, IsText-le_bytes, fx32, fx32_step, fx64, fx64_step, words32, words64, of_byte, le_bytes, pieces, le, recurrence, common_steps, nat_tests}
use Rattle.std.proofs.lemmas.List.{take_all}
use Rattle.hash_words.proofs.WordLemmas.{le-to_le_bytes-32, le-to_le_bytes-64}
use Rattle.hash_words.specs.Undoes.{UndoesWords}
use Rattle.hash_words.proofs.UndoLemmas.{solved}
use Rattle.hash_laws.specs.Exactly.{ExactlyTexts}
use Rattle.hash_laws.proofs.ExactlyLemmas.{Exactly-one}
use Rattle.hash_fx.specs.FxStepLaws.{fx64_of_word, fx32_of_word}

-- a word of n bytes is one of w bits, and a step is undone by its words
module _ (w n : ℕ) (step : ℕ → ℕ → ℕ) (wide : 256 ^ n ≡ 2 ^ w)
    (bytes : (v : ℕ) → v < 2 ^ w → le (le_bytes n v) ≡ v) (long : (v : ℕ) → length (le_bytes n v) ≡ n)
    (words : List ℕ → List ℕ) (whole : (text : List ℕ) → length text ≡ n → words text ≡ le text ∷ []) where
  in-one : (h : ℕ) (text : List ℕ) → length text ≡ n → recurrence step h (words text) ≡ step h (le text)
  in-one h text len = ap (recurrence step h) (whole text len) ∙ of_byte step h (le text)

  one-word : (h answer : ℕ) → answer < 2 ^ w → {g : ℕ → ℕ} → UndoesWords w (step h) g
      → ExactlyTexts 1 n (λ text. recurrence step h (words text) ≡ answer)
  one-word h answer answer_in {g = g} undone =
      let word = g answer in
      let text = le_bytes n word in
      let value = bytes word (undone.back_in answer answer_in) in
      Exactly-one _ text
      (IsText-le_bytes n word, long word, in-one h text (long word) ∙ ap (step h) value ∙ undone.there answer answer_in)
      (λ other known.
      grind (arith, nat_tests, common_steps, le, le-lt, solved, in-one, le-same, IsText-le_bytes))

-- a text of one word
eight-word : (text : List ℕ) → length text ≡ 8 → words64 text ≡ le text ∷ []
unfolding pieces
eight-word text len = grind (arith, nat_tests, common_steps, take_all, drop_all)

four-word : (text : List ℕ) → length text ≡ 4 → words32 text ≡ le text ∷ []
unfolding pieces
four-word text len = grind (arith, nat_tests, common_steps, take_all, drop_all)

value-64 : (v : ℕ) → v < 2 ^ 64 → le (le_bytes 8 v) ≡ v
unfolding le_bytes
value-64 v known = le-to_le_bytes-64 v known

value-32 : (v : ℕ) → v < 2 ^ 32 → le (le_bytes 4 v) ≡ v
unfolding le_bytes
value-32 v known = le-to_le_bytes-32 v known

long-64 : (v : ℕ) → length (le_bytes 8 v) ≡ 8
unfolding le_bytes
long-64 v = refl

long-32 : (v : ℕ) → length (le_bytes 4 v) ≡ 4
unfolding le_bytes
long-32 v = refl

pub even-64 : (h answer : ℕ) → h < 2 ^ 64 → answer < 2 ^ 64 → ExactlyTexts 1 8 (λ word. fx64 h (words64 word) ≡ answer)
even-64 h answer h_in answer_in =
    one-word 64 8 fx64_step refl value-64 long-64 words64 eight-word h answer answer_in (fx64_of_word h h_in)

pub even-32 : (h answer : ℕ) → h < 2 ^ 32 → answer < 2 ^ 32 → ExactlyTexts 1 4 (λ word. fx32 h (words32 word) ≡ answer)
even-32 h answer h_in answer_in =
    one-word 32 4 fx32_step refl value-32 long-32 words32 four-word h answer answer_in (fx32_of_word h h_in)
