-- The texts of a set that takes in texts one after the other: which those are, each once, in whatever order they come.
use Rattle.text_set.proofs.Common.{◌≢◌, ℕ, true, false, cond, ◌||◌, All, List, [], ◌∷◌, ◌++◌, length, get_or, take, drop, map, fold, ap, sym, ◌∙◌, refl, append-nil, append_assoc, arith, inl, inr, take-append-drop, IsPermutation, bytes_eq, AllByRecursion, IsDistinct, remove, cases_Bool, cond_both, nat_tests, common_steps, flat_map-append, map-append, All-head, All-tail, All-push, All-nil, All-from_recursion, recursion_from_All, list_any-append, list_any_none, Any-from_list_any, list_any_at, fold-append, bytes_eq-Decides, strip_last, line_texts, lines_by, EachOnce, StandsAt, has, with_text, ◌≡◌, nat_list_eq_equiv, IsPermutation-cons, IsPermutation-refl, IsPermutation-sym, IsPermutation-remove, IsPermutation-trans, list_any-IsPermutation, IsDistinct-IsPermutation, IsDistinct-from_apart, IsDistinct-head, IsDistinct-tail}
use Rattle.text_set.specs.Firsts.{ComesBefore, as_lines, each_once_by, firsts_by, once_by}
use Rattle.text_set.proofs.LineLemmas.{texts_of_lines}

pub has_more : (texts : List (List ℕ)) (text other : List ℕ) → has (texts ++ text ∷ []) other ≡ (bytes_eq other text || has texts other)
has_more texts text other = grind (arith, list_any-append)

-- a set has the text that it took in, and those that it had
pub has_with : (texts : List (List ℕ)) (text other : List ℕ) → has (with_text texts text) other ≡ (bytes_eq other text || has texts other)
has_with texts text other = grind (arith, has_more, bytes_eq-Decides)

-- and after several
pub has_all : (texts more : List (List ℕ)) (other : List ℕ) → has (fold with_text texts more) other ≡ (has texts other || has more other)
has_all texts [] other = grind arith
has_all texts (text ∷ more) other = grind (arith, has_with, has_all (with_text texts text) more other)

pub has_there : (texts : List (List ℕ)) (text : List ℕ) (place : ℕ) → StandsAt texts text place → has texts text ≡ true
has_there texts text place stands = list_any_at (bytes_eq text) texts place [] stands.0 ((bytes_eq-Decides _ _).1 (sym stands.1))

-- each text still stands once, behind a new one
pub once_more : (texts : List (List ℕ)) (text : List ℕ) → EachOnce texts → has texts text ≡ false → EachOnce (texts ++ text ∷ [])
once_more texts text once new = λ i k i_in k_in same.
    grind (arith, common_steps, once i k, has_there texts text i, has_there texts text k)

pub once_with : (texts more : List (List ℕ)) → EachOnce texts → EachOnce (fold with_text texts more)
once_with texts [] once = once
once_with texts (text ∷ more) once = once_with (with_text texts text) more
    (cond_both (has texts text) texts (texts ++ text ∷ []) EachOnce (λ there. once) (once_more texts text once))

pub has_in_any_order : (texts more other : List (List ℕ)) → IsPermutation more other → (text : List ℕ)
    → has (fold with_text texts more) text ≡ has (fold with_text texts other) text
has_in_any_order texts more other moved text = grind (arith, has_all, list_any-IsPermutation (bytes_eq text) more other moved)

-- a text stays where it stands, whatever is taken in
pub place_stays : (texts more : List (List ℕ)) (text : List ℕ) (place : ℕ) → StandsAt texts text place
    → StandsAt (fold with_text texts more) text place
place_stays texts [] text place stands = stands
place_stays texts (other ∷ more) text place stands = place_stays (with_text texts other) more text place (grind (arith, common_steps))

-- texts that are there add nothing
pub nothing_added : (texts more : List (List ℕ)) → All (λ text. has texts text ≡ true) more → fold with_text texts more ≡ texts
nothing_added texts [] there = refl
nothing_added texts (text ∷ more) there =
    grind (arith, All-head (λ t. has texts t ≡ true) text more there, nothing_added texts more (All-tail (λ t. has texts t ≡ true) text more there))

-- what is taken in later stands behind
pub fold_begins : (texts more : List (List ℕ)) → (rest : List (List ℕ)) × (fold with_text texts more ≡ texts ++ rest)
fold_begins texts [] = ([], sym (append-nil texts))
fold_begins texts (text ∷ more) = grind (arith, nat_tests, common_steps, fold_begins (with_text texts text) more)

-- a set of such texts takes in such texts
set_has : (P : List ℕ → Type 0) (texts more : List (List ℕ)) → All P texts → All P more → All P (fold with_text texts more)
set_has P texts [] all all_more = all
set_has P texts (text ∷ more) all all_more = set_has P (with_text texts text) more
    (cond_both (has texts text) texts (texts ++ text ∷ []) (All P) (λ there. all) (λ new. All-push P texts text all (All-head P text more all_more)))
    (All-tail P text more all_more)

-- a text that came before another did still does
pub firsts_before : (texts : List (List ℕ)) (text other : List ℕ) → ComesBefore texts text other
    → ComesBefore (fold with_text [] texts) text other
firsts_before texts text other (before, after, is, none) =
    let set = fold with_text [] before in
    let absent : has set other ≡ false = has_all [] before other ∙ none in
    let (rest, all) = fold_begins (with_text set text) after in
    let whole : fold with_text [] texts ≡ with_text set text ++ rest =
    ap (fold with_text []) is ∙ fold-append with_text [] before (text ∷ after) ∙ all in
    elim (cases_Bool (has set text)) [
      | inl there ↦
          let (k, x, below, at, eq) = Any-from_list_any (bytes_eq text) set there in
          let it : get_or set k x ≡ text = grind (arith, bytes_eq-Decides) in
          grind (arith, nat_tests, common_steps, list_any-append (bytes_eq other) (take k set) (drop k set), take-append-drop k set)
      | inr new ↦ (set, rest, grind (arith, common_steps, whole), absent)
    ]

-- ---- no text twice

distinct : (texts : List (List ℕ)) → EachOnce texts → IsDistinct bytes_eq texts
distinct texts once = IsDistinct-from_apart bytes_eq texts (λ i k d less below. grind (arith, common_steps, once i k, bytes_eq-Decides))

none_there : (text : List ℕ) (texts : List (List ℕ)) → AllByRecursion (λ y. bytes_eq text y ≡ false) texts → has texts text ≡ false
none_there text texts all = list_any_none (bytes_eq text) texts (All-from_recursion (λ y. bytes_eq text y ≡ false) texts all)

-- texts that stand once and are the same are so in another order
same_texts : (texts others : List (List ℕ)) → IsDistinct bytes_eq texts → IsDistinct bytes_eq others
    → ((text : List ℕ) → has texts text ≡ has others text) → IsPermutation texts others
same_texts [] [] apart apart_there same = IsPermutation-refl []
same_texts [] (other ∷ others) apart apart_there same = absurd (grind (arith, same other, nat_list_eq_equiv.refl other))
same_texts (text ∷ texts) others apart apart_there same =
    let there : has others text ≡ true = grind (arith, same text, nat_list_eq_equiv.refl text) in
    let (k, x, below, is, eq) = Any-from_list_any (bytes_eq text) others there in
    let it : text ≡ get_or others k text = grind (arith, common_steps, bytes_eq-Decides) in
    let rest = remove others k in
    let moved = IsPermutation-remove others k text below it in
    let alone = IsDistinct-IsPermutation bytes_eq nat_list_eq_equiv.symm others (text ∷ rest) moved apart_there in
    let absent : has texts text ≡ false = none_there text texts (IsDistinct-head bytes_eq text texts apart) in
    let absent_there : has rest text ≡ false = none_there text rest (IsDistinct-head bytes_eq text rest alone) in
    IsPermutation-trans (text ∷ texts) (text ∷ rest) others
    (IsPermutation-cons text texts rest (same_texts texts rest (IsDistinct-tail bytes_eq text texts apart) (IsDistinct-tail bytes_eq text rest alone)
    (λ other. grind (arith, same other, list_any-IsPermutation (bytes_eq other) others (text ∷ rest) moved, bytes_eq-Decides other text))))
    (IsPermutation-sym others (text ∷ rest) moved)

-- of texts in another order the set has the same in another order
pub set_in_any_order : (texts others : List (List ℕ)) → IsPermutation texts others
    → IsPermutation (fold with_text [] texts) (fold with_text [] others)
set_in_any_order texts others moved =
    let none : EachOnce [] = λ i k below. absurd (omega arith) in
    same_texts _ _ (distinct _ (once_with [] texts none)) (distinct _ (once_with [] others none))
    (has_in_any_order [] texts others moved)

-- a set that takes in its own texts is as it was
again : (before texts : List (List ℕ)) → EachOnce (before ++ texts) → fold with_text before texts ≡ before ++ texts
again before [] once = sym (append-nil before)
again before (text ∷ texts) once =
    let new : has before text ≡ false = list_any_none (bytes_eq text) before
    (λ k d below. grind (arith, common_steps, once k (length before), bytes_eq-Decides text (get_or before k d))) in
    ap (λ b. fold with_text (cond b before (before ++ text ∷ [])) texts) new
    ∙ again (before ++ text ∷ []) texts (rw append_assoc once) ∙ append_assoc before (text ∷ []) texts

-- ---- the lines of a text, each once

module _ (eol : ℕ) where
  -- no byte ends a line
  abbrev HasNone : List ℕ → Type 0
  HasNone bytes = AllByRecursion (λ byte. byte ≢ eol) bytes

  text_of_bare : (text more : List ℕ) → HasNone text → line_texts eol ((text ++ eol ∷ []) ++ more) ≡ text ∷ line_texts eol more
  text_of_bare [] more bare = grind (arith, nat_tests)
  text_of_bare (byte ∷ text) more bare = grind (arith, nat_tests, text_of_bare text more bare.1)

  lines_are_bare : (text : List ℕ) → AllByRecursion HasNone (line_texts eol text)
  lines_are_bare [] = tt
  lines_are_bare (byte ∷ text) = grind (arith, nat_tests, lines_are_bare text)

  texts_of_bare : (texts : List (List ℕ)) → AllByRecursion HasNone texts → line_texts eol (as_lines eol texts) ≡ texts
  texts_of_bare [] bare = refl
  texts_of_bare (text ∷ texts) bare = grind (arith, text_of_bare text (as_lines eol texts) bare.0, texts_of_bare texts bare.1)

  -- the texts of the lines, each once, are those of a set that takes in all
  pub lines_of_set : (text : List ℕ) → line_texts eol (each_once_by eol text) ≡ fold with_text [] (line_texts eol text)
  lines_of_set text =
      let bare = All-from_recursion HasNone (line_texts eol text) (lines_are_bare text) in
      rw (← texts_of_lines eol text)
      (texts_of_bare _ (recursion_from_All HasNone _ (set_has HasNone [] (line_texts eol text) (All-nil HasNone) bare)))

  pub written_once : (text : List ℕ) → EachOnce (line_texts eol (each_once_by eol text))
  written_once text = rw lines_of_set (once_with [] (line_texts eol text) (λ i k below. absurd (omega arith)))

  pub written_texts : (text line : List ℕ) → has (line_texts eol (each_once_by eol text)) line ≡ has (line_texts eol text) line
  written_texts text line = rw lines_of_set (has_all [] (line_texts eol text) line)

  pub written_in_order : (text line other : List ℕ) → ComesBefore (line_texts eol text) line other
      → ComesBefore (line_texts eol (each_once_by eol text)) line other
  written_in_order text line other before = rw lines_of_set (firsts_before (line_texts eol text) line other before)

  pub written_twice : (text : List ℕ) → each_once_by eol (each_once_by eol text) ≡ each_once_by eol text
  written_twice text =
      let none : EachOnce [] = λ i k below. absurd (omega arith) in
      rw (← texts_of_lines, lines_of_set, ← texts_of_lines)
      (ap (as_lines eol) (again [] _ (once_with [] (line_texts eol text) none)))

  -- what further lines add stands behind what was there
  pub once_begins : (ls more : List (List ℕ)) → (rest : List ℕ) × (once_by eol (ls ++ more) ≡ once_by eol ls ++ rest)
  once_begins ls more =
      let (rest, is) = fold_begins (firsts_by eol ls) (map (strip_last eol) more) in
      (as_lines eol rest, rw (map-append, fold-append, is) (flat_map-append (λ t. t ++ eol ∷ []) (firsts_by eol ls) rest))

  pub written_first : (text more : List ℕ) → lines_by eol (text ++ more) ≡ lines_by eol text ++ lines_by eol more
      → (rest : List ℕ) × (each_once_by eol (text ++ more) ≡ each_once_by eol text ++ rest)
  written_first text more whole = rw whole (once_begins (lines_by eol text) (lines_by eol more))

  pub lines_in_any_order : (text more : List ℕ) → IsPermutation (line_texts eol text) (line_texts eol more)
      → IsPermutation (line_texts eol (each_once_by eol text)) (line_texts eol (each_once_by eol more))
  lines_in_any_order text more moved = rw (lines_of_set text, lines_of_set more) (set_in_any_order (line_texts eol text) (line_texts eol more) moved)
