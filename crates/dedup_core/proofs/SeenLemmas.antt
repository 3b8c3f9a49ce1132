-- The set of the texts that were seen.
use Rattle.dedup_core.proofs.Common.{◌≡◌, ℕ, Result, Ok, Err, OnOk, Bool, true, false, not, List, [], ◌∷◌, ◌++◌, if◌then◌else◌, Option, arith, is_ok, strip_last, false≢true, map-append, fold-append, Appends-trans, Appends, AppendsPart, as_line_by, part_behind, has, with_text, append-nil, At, Broke, Leads, rules, common_steps, nat_tests}
use Rattle.text_set.specs.Firsts.{firsts_by, once_by}

-- what is told to be new is not there, and what is told to be old is
pub not_there : (there new : Bool) → new ≡ not there → new ≡ true → there ≡ false
not_there there new is told = grind arith

pub is_there : (there new : Bool) → new ≡ not there → new ≡ false → there ≡ true
is_there there new is told = grind arith

-- the texts with that of a line more
pub firsts_more : (eol : ℕ) (ls : List (List ℕ)) (line : List ℕ)
    → firsts_by eol (ls ++ line ∷ []) ≡ with_text (firsts_by eol ls) (strip_last eol line)
firsts_more eol ls line = grind (arith, nat_tests, common_steps, map-append, fold-append)

module _ (eol : ℕ) (seen : List (List ℕ)) (line : List ℕ) where
  -- what is written of a line behind lines with these texts: nothing where its text is there, and else all of it, and its end
  adds : (ls : List (List ℕ)) → seen ≡ firsts_by eol ls → (there : Bool) → has seen (strip_last eol line) ≡ there
      → once_by eol (ls ++ line ∷ []) ≡ once_by eol ls ++ (if there then [] else as_line_by eol line)
  adds ls now there is = grind (arith, nat_tests, common_steps, append-nil (once_by eol ls), append-nil (as_line_by eol line))

  -- a line is taken by a set that has its text then, and what is due of it is written
  pub takes_line : (seen' : List (List ℕ)) → seen' ≡ with_text seen (strip_last eol line) → (there : Bool)
      → has seen (strip_last eol line) ≡ there → (w w' : Option (List ℕ)) → Appends w w' (if there then [] else as_line_by eol line)
      → Leads (At (once_by eol) (λ ls. seen ≡ firsts_by eol ls) w) (At (once_by eol) (λ ls. seen' ≡ firsts_by eol ls) w') (line ∷ [])
  takes_line seen' is there told w w' appends = search (rules, firsts_more, adds, Appends-trans)

  -- a fault within a new line
  pub stops_in_line : has seen (strip_last eol line) ≡ false → (w w' : Option (List ℕ)) → AppendsPart w w' (as_line_by eol line)
      → Leads (At (once_by eol) (λ ls. seen ≡ firsts_by eol ls) w) (Broke (once_by eol) w') (line ∷ [])
  stops_in_line new w w' part = record {
    on = λ start ls at. rw (adds ls at.stands false new) (part_behind _ _ _ _ _ at.writes part);
  }

-- what holds at a success holds where there is one
pub at_ok : {A E : Type 0} (P : Type 0) (result : Result A E) → is_ok result ≡ true → OnOk result P → P
at_ok P (Ok it) is holds = holds
at_ok P (Err error) is holds = absurd (false≢true is)
