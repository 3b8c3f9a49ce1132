-- Lists whose lines are checked.
use Rattle.hashsum_core.proofs.Common.{◌≡◌, inl, inr, ℕ, true, List, [], ◌∷◌, ◌++◌, length, Option, Some, None, Ok, Err, refl, ap, sym, ◌∙◌, subst, arith, Keeps-refl, nat_tests, fold-append, IsAtEnd, Sum, Failure, Nothing, Opens, lines_by, ReadsNext, append_assoc, append-nil, counted, counts_of, said_of, uncounted, AreFirstLines, AreLines, EndsLine, EndsList, IsLineCheckOf, Checking, LineCheck, AreTold, Counts, rules, common_steps, told_next, told_start, torn_kept, torn_within}
use Rattle.std.specs.Io.BufRead.{drop_through, take_through}

-- the first line of a text, and the lines of the rest
next_first : (byte : ℕ) (text : List ℕ)
    → lines_by 10 (byte ∷ text) ≡ take_through 10 (byte ∷ text) ∷ lines_by 10 (drop_through 10 (byte ∷ text))
next_first byte [] = grind (arith, nat_tests)
next_first byte (next ∷ text) = grind (arith, nat_tests, next_first next text)

-- no lines come first
pub no_lines : (held : Option (List ℕ)) → AreFirstLines held [] held
no_lines None = tt
no_lines (Some text) = (text, refl, refl)

-- one line more
pub lines_more : (held here left : Option (List ℕ)) (lines : List (List ℕ)) (line : List ℕ) → AreFirstLines held lines here
    → ReadsNext 10 here left line → AreFirstLines held (lines ++ line ∷ []) left
lines_more None here left lines line are next = tt
lines_more (Some text) None left lines line (rest, is, are) next = cc
lines_more (Some text) (Some []) left lines line (rest, is, are) next = absurd (omega (arith, next.some, ap length next.next.0))
lines_more (Some text) (Some (byte ∷ more)) left lines line (rest, is, are) next = search (rules, append_assoc, next_first)

-- the lines, where nothing is left
pub all_lines : (held left : Option (List ℕ)) (lines : List (List ℕ)) → AreFirstLines held lines left → IsAtEnd left → AreLines held lines
all_lines None left lines are end = tt
all_lines (Some text) None lines (rest, is, are) end = cc
all_lines (Some text) (Some bytes) lines (rest, is, are) end = grind (arith, nat_tests, common_steps, append-nil)

-- what came of the first lines is written and counted
abbrev pub SoFar : List Sum → Checking → Opens → (list : List ℕ) (left left' written written' : Option (List ℕ))
    → Counts → Type 0
SoFar kinds checking opens list left left' written written' counts =
    (ls : List (List ℕ)) × AreFirstLines left ls left' × (told : List (List ℕ × LineCheck))
    × AreTold (λ line. line.0) (IsLineCheckOf kinds checking opens list) (said_of checking) (λ line. true) ls told written written' true
    × (counts ≡ counts_of told)

pub so_far_start : (kinds : List Sum) (checking : Checking) (opens : Opens) (list : List ℕ) (left written : Option (List ℕ))
    → SoFar kinds checking opens list left left written written uncounted
so_far_start kinds checking opens list left written =
    ([], no_lines left, [], told_start (λ line. line.0) (IsLineCheckOf kinds checking opens list) (said_of checking) (λ line. true) written, refl)

-- one line more
pub so_far_more : (kinds : List Sum) (checking : Checking) (opens : Opens) (list : List ℕ)
    (left here left' written between written' : Option (List ℕ)) (counts counts' : Counts) (line given : List ℕ) (came : LineCheck)
    → SoFar kinds checking opens list left here written between counts → ReadsNext 10 here left' line → given ≡ line
    → EndsLine kinds checking opens list given between written' (Ok came) → counts' ≡ counted counts came
    → SoFar kinds checking opens list left left' written written' counts'
so_far_more kinds checking opens list left here left' written between written' counts counts' line given came (ls, are, told, so_far, counts_are)
    next same (is_came, appends) more = (
      ls ++ line ∷ [],
      lines_more left here left' ls line are next,
      told ++ (line, came) ∷ [],
      told_next (λ l. l.0) (IsLineCheckOf kinds checking opens list) (said_of checking) (λ l. true) ls _ told written between written' true true
          (line, came) so_far (subst (λ t. IsLineCheckOf kinds checking opens list (t, came)) same is_came) appends refl refl,
      more ∙ ap (λ n. counted n came) counts_are
          ∙ sym (fold-append (λ (n : Counts) (l : List ℕ × LineCheck). counted n l.1) uncounted told ((line, came) ∷ [])),
    )

-- a line of which a beginning of what came was written
pub torn_off : (kinds : List Sum) (checking : Checking) (opens : Opens) (list : List ℕ)
    (left here left' written between written' : Option (List ℕ)) (counts : Counts) (line given : List ℕ) (fault : Failure Nothing)
    → SoFar kinds checking opens list left here written between counts → ReadsNext 10 here left' line → given ≡ line
    → EndsLine kinds checking opens list given between written' (Err fault)
    → EndsList kinds checking opens list left written written' (Err fault)
torn_off kinds checking opens list left here left' written between written' counts line given fault (ls, are, told, so_far, counts_are)
    next same (inl kept) = (
      ls ++ line ∷ [],
      left',
      lines_more left here left' ls line are next,
      torn_kept (λ l. l.0) (IsLineCheckOf kinds checking opens list) (said_of checking) (λ l. true) ls (line ∷ []) (ls ++ line ∷ []) told written
          between
          written' true so_far kept refl,
    )
torn_off kinds checking opens list left here left' written between written' counts line given fault (ls, are, told, so_far, counts_are)
    next same (inr (came, is_came, part)) = (
      ls ++ line ∷ [],
      left',
      lines_more left here left' ls line are next,
      torn_within (λ l. l.0) (IsLineCheckOf kinds checking opens list) (said_of checking) (λ l. true) ls [] (ls ++ line ∷ []) told written between
          written' true (line, came) so_far (subst (λ t. IsLineCheckOf kinds checking opens list (t, came)) same is_came) part refl,
    )

-- nothing is read or written
pub list_torn_off : (kinds : List Sum) (checking : Checking) (opens : Opens) (list : List ℕ) (left written : Option (List ℕ))
    (fault : Failure Nothing) → EndsList kinds checking opens list left written written (Err fault)
list_torn_off kinds checking opens list left written fault = grind (arith, nat_tests, common_steps, no_lines left, Keeps-refl written)

-- the whole list, where nothing is left
pub list_ended : (kinds : List Sum) (checking : Checking) (opens : Opens) (list : List ℕ) (left here written written' : Option (List ℕ))
    (counts : Counts) → SoFar kinds checking opens list left here written written' counts → IsAtEnd here
    → EndsList kinds checking opens list left written written' (Ok (Some counts))
list_ended kinds checking opens list left here written written' counts (ls, are, told, so_far, counts_are) end =
    (ls, all_lines left here ls are end, told, so_far, counts_are)
