-- Lines of a text: with the byte that ends each, and without.
use Rattle.text_set.proofs.Common.{suc, zero, Some, ◌≢◌, ℕ, ◌+◌, ◌≤◌, true, false, List, [], ◌∷◌, ◌++◌, length, take, drop, map, ap, sym, ◌∙◌, refl, arith, length-append, inl, inr, ends_with_byte, strip_last, onto_first, cases_Bool, nat_tests, common_steps, as_line_by, line_texts, lines_by, IsBare, IsLineEnd, ◌≡◌, ◌-◌, ◌<◌}
use Rattle.std.specs.Io.{StopsAt}

module _ (eol : ℕ) where
  -- a text without ends and an end behind it are one line
  pub first_line : (bytes later : List ℕ) (n : ℕ) → IsLineEnd eol bytes (Some n)
      → lines_by eol (bytes ++ later) ≡ take (n + 1) bytes ∷ lines_by eol (drop (n + 1) bytes ++ later)
  first_line [] later n end = absurd (omega (arith, end.0))
  first_line (byte ∷ bytes) later zero end = grind (arith, nat_tests)
  first_line (byte ∷ bytes) later (suc n) (within, is, before) =
      let one_more : suc n + 1 ≡ suc (n + 1) = omega arith in
      rw one_more (grind (arith, nat_tests, before 0, first_line bytes later n (omega arith, is, λ k less. before (suc k) (omega arith))))

  pub first_text : (bytes : List ℕ) (n : ℕ) → IsLineEnd eol bytes (Some n)
      → line_texts eol bytes ≡ take n bytes ∷ line_texts eol (drop (n + 1) bytes)
  first_text [] n end = absurd (omega (arith, end.0))
  first_text (byte ∷ bytes) zero end = grind (arith, nat_tests)
  first_text (byte ∷ bytes) (suc n) (within, is, before) =
      grind (arith, nat_tests, before 0, first_text bytes n (omega arith, is, λ k less. before (suc k) (omega arith)))

  -- bytes without an end are one line
  pub bare_line : (line : List ℕ) → IsBare eol line → 0 < length line → lines_by eol line ≡ line ∷ []
  bare_line [] bare some = absurd (omega arith)
  bare_line (byte ∷ []) bare some = grind (arith, nat_tests, bare 0)
  bare_line (byte ∷ next ∷ line) bare some =
      grind (arith, nat_tests, bare 0, bare_line (next ∷ line) (λ k below. bare (suc k) (omega arith)) (omega arith))

  pub bare_text : (line : List ℕ) → IsBare eol line → 0 < length line → line_texts eol line ≡ line ∷ []
  bare_text [] bare some = absurd (omega arith)
  bare_text (byte ∷ []) bare some = grind (arith, nat_tests, bare 0)
  bare_text (byte ∷ next ∷ line) bare some =
      grind (arith, nat_tests, bare 0, bare_text (next ∷ line) (λ k below. bare (suc k) (omega arith)) (omega arith))

  pub bare_end : (line : List ℕ) → IsBare eol line → ends_with_byte eol line ≡ false
  bare_end line bare = grind (arith, nat_tests, bare (length line - 1))

  pub strip_bare : (line : List ℕ) → IsBare eol line → strip_last eol line ≡ line
  strip_bare line bare = rw (bare_end line bare)

  -- a line that is longer than its text has its end
  pub line_with_end : (line : List ℕ) → length (strip_last eol line) < length line → as_line_by eol line ≡ line
  line_with_end line longer = grind (arith, nat_tests, common_steps)

  -- a line that is not has none
  pub line_without_end : (line : List ℕ) → length line ≤ length (strip_last eol line) → strip_last eol line ≡ line
  line_without_end line all = grind (arith, nat_tests, common_steps)

  pub some_line : (text : List ℕ) → 0 < length text → 0 < length (lines_by eol text)
  some_line [] some = absurd (omega arith)
  some_line (byte ∷ text) some = grind (arith, nat_tests)

  pub first_ends : (bytes : List ℕ) (n : ℕ) → IsLineEnd eol bytes (Some n) → ends_with_byte eol (take (n + 1) bytes) ≡ true
  first_ends bytes n end = grind (arith, nat_tests, common_steps)

  pub first_strip : (rest line : List ℕ) (n : ℕ) → line ≡ take (n + 1) rest → IsLineEnd eol rest (Some n) → take n line ≡ strip_last eol line
  first_strip rest line n front end = grind (arith, nat_tests, common_steps, first_ends rest n end)

  -- ---- without

  pub strip_more : (byte next : ℕ) (line : List ℕ) → strip_last eol (byte ∷ next ∷ line) ≡ byte ∷ strip_last eol (next ∷ line)
  strip_more byte next line = grind (arith, common_steps, nat_tests)

  strip_onto : (byte : ℕ) → byte ≢ eol → (ls : List (List ℕ))
      → map (strip_last eol) (onto_first byte ls) ≡ onto_first byte (map (strip_last eol) ls)
  strip_onto byte other [] = grind (arith, nat_tests)
  strip_onto byte other ([] ∷ ls) = grind (arith, nat_tests)
  strip_onto byte other ((next ∷ line) ∷ ls) = ap (λ line. line ∷ map (strip_last eol) ls) (strip_more byte next line)

  -- the lines with their ends, and those ends taken away
  pub texts_of_lines : (text : List ℕ) → line_texts eol text ≡ map (strip_last eol) (lines_by eol text)
  texts_of_lines [] = refl
  texts_of_lines (byte ∷ text) = grind (arith, nat_tests, texts_of_lines text, strip_onto byte)

  pub lines_joined : (text more : List ℕ)
      → lines_by eol ((text ++ eol ∷ []) ++ more) ≡ lines_by eol (text ++ eol ∷ []) ++ lines_by eol more
  lines_joined [] more = grind (arith, nat_tests)
  lines_joined (byte ∷ text) more =
      let some = some_line (text ++ eol ∷ []) (omega (arith, length-append text (eol ∷ []))) in
      grind (arith, nat_tests, lines_joined text more, some)

  -- a line that was read to where it stops
  pub texts_of_line : (line more : List ℕ) → StopsAt line eol → ends_with_byte eol line ≡ true
      → line_texts eol (line ++ more) ≡ strip_last eol line ∷ line_texts eol more
  texts_of_line line more stops ends = grind (arith, nat_tests, common_steps, texts_of_lines, first_line)

  pub text_of_line : (line : List ℕ) → StopsAt line eol → 0 < length line → line_texts eol line ≡ strip_last eol line ∷ []
  text_of_line line stops some = elim (cases_Bool (ends_with_byte eol line)) [
    | inl ends ↦ grind (arith, common_steps, texts_of_line line [] stops ends)
    | inr bare ↦
        let none : IsBare eol line = λ k less. grind (arith, nat_tests, common_steps, stops k 0) in
        bare_text line none some ∙ ap (λ t. t ∷ []) (sym (strip_bare line none))
  ]
