-- What was read of an input and taken of it, and what is written of that.
use Rattle.dedup_core.proofs.Common.{◌≡◌, ℕ, ◌+◌, true, false, List, [], ◌∷◌, ◌++◌, length, take, drop, ap, sym, ◌∙◌, refl, subst, Option, None, Some, append_assoc, arith, Consumes, Keeps, IsAtEnd, Appends-kept, Consumes-trans, Consumes-whole, part_whole, IsBare, IsLineEnd, lines_by, bare_end, bare_line, first_ends, first_line, Filled, Splits, Takes, append-nil, At, BeginWith, BreaksInput, Broke, Grows, Leads, ReadsInput, whole_lines, common_steps, nat_tests}
use Rattle.std.proofs.lemmas.List.Elements.{filter-append}
use Rattle.streams.proofs.RecordLemmas.{first_all, first_behind, first_both, first_none}
use Rattle.dedup_core.specs.declared.unread.NextLine.{NextLine}

-- ---- lines that come next

abbrev pub Standing : Type 1
Standing = (start : Option (List ℕ)) → List (List ℕ) → Type 0

pub leads_nowhere : (at : Standing) → Leads at at []
leads_nowhere at = record { on = λ start ls here. subst (at start) (sym (append-nil ls)) here }

pub leads_both : {a b c : Standing} {first second : List (List ℕ)} → Leads a b first → Leads b c second → Leads a c (first ++ second)
leads_both {c = c} {first = first} {second = second} one two = grind (arith, nat_tests, common_steps, append_assoc)

-- what is written aside
pub taken_on : {output : List (List ℕ) → List ℕ} {taken taken' : List (List ℕ) → Type 0} {w w' : Option (List ℕ)} {more : List (List ℕ)}
    → Leads (At output taken w) (At output taken' w') more → (ls : List (List ℕ)) → taken ls → taken' (ls ++ more)
taken_on leads ls now = (leads.on None ls (record { stands = now; writes = tt })).stands

pub stands_on : {output : List (List ℕ) → List ℕ} {taken taken' : List (List ℕ) → Type 0} {w w' : Option (List ℕ)} {more : List (List ℕ)}
    → Leads (At output taken w) (At output taken' w') more → (ls : List (List ℕ)) × taken ls → (ls : List (List ℕ)) × taken' ls
stands_on {more = more} leads (ls, now) = (ls ++ more, taken_on leads ls now)

module _ {output : List (List ℕ) → List ℕ} {taken : List (List ℕ) → Type 0} {a : Standing} {more : List (List ℕ)} {w w' : Option (List ℕ)}
    (keeps : Keeps w w') (leads : Leads a (At output taken w) more) where
  -- a flush changes nothing that was written
  pub leads_kept : Leads a (At output taken w') more
  leads_kept = grind (arith, nat_tests, common_steps, Appends-kept)

  -- a fault behind lines of which all is written
  pub breaks_behind : Leads a (Broke output w') more
  breaks_behind = grind (arith, nat_tests, common_steps, part_whole, Appends-kept)

-- a fault before anything is written of the next lines
pub breaks_before : {output : List (List ℕ) → List ℕ} {taken : List (List ℕ) → Type 0} {w w' : Option (List ℕ)} → Grows output
    → Keeps w w' → (more : List (List ℕ)) → Leads (At output taken w) (Broke output w') more
breaks_before {output = output} grows keeps more = record {
  on = λ start ls at. let (rest, is) = grows ls more in (output ls, rest, sym is, Appends-kept _ _ _ _ at.writes keeps);
}

-- ---- bytes whose first lines are known

module _ {eol : ℕ} where
  pub splits_nowhere : (bytes : List ℕ) → Splits eol bytes [] bytes
  splits_nowhere bytes = record { first = first_none; ends = refl }

  -- the first line, and what comes behind it
  pub splits_line : (bytes line behind : List ℕ) (n : ℕ) → line ≡ take (n + 1) bytes → behind ≡ drop (n + 1) bytes
      → IsLineEnd eol bytes (Some n) → Splits eol bytes (line ∷ []) behind
  splits_line bytes line behind n front back end = grind (arith, nat_tests, common_steps, first_line, first_ends)

  pub splits_both : {bytes mid rest : List ℕ} {ls more : List (List ℕ)} → Splits eol bytes ls mid → Splits eol mid more rest
      → Splits eol bytes (ls ++ more) rest
  splits_both {ls = ls} {more = more} one two = grind (arith, nat_tests, common_steps, first_both, filter-append)

  -- more bytes behind them
  pub splits_behind : {bytes rest : List ℕ} {ls : List (List ℕ)} (more : List ℕ) → Splits eol bytes ls rest
      → Splits eol (bytes ++ more) ls (rest ++ more)
  splits_behind more it = record { first = first_behind more it.first; ends = it.ends }

  -- where the rest has no end, the lines that have one are these
  whole_are : {bytes rest : List ℕ} {ls : List (List ℕ)} → Splits eol bytes ls rest → IsBare eol rest → whole_lines eol bytes ≡ ls
  whole_are {rest = rest} {ls = ls} it bare =
      grind (arith, nat_tests, common_steps, first_all, filter-append, append-nil, bare_line, bare_end)

  pub bare_nothing : (bytes : List ℕ) → bytes ≡ [] → IsBare eol bytes
  bare_nothing bytes none = λ k below. absurd (omega (arith, below, ap length none))

-- ---- what was read of an input

-- these lines of it are taken, and the unread bytes stand behind them
pub record Reads (eol : ℕ) (left left' : Option (List ℕ)) (unread : List ℕ) (ls : List (List ℕ)) : Type 0 where
  pub bytes : List ℕ
  pub read : Consumes left left' bytes
  pub splits : Splits eol bytes ls unread

pub begins_all : (eol : ℕ) (left left' : Option (List ℕ)) (ls : List (List ℕ)) → ReadsInput eol true left left' ls → BeginWith eol left ls
begins_all eol None left' ls reads = tt
begins_all eol (Some bytes) left' ls reads = ([], ap (lines_by eol) (reads.all refl) ∙ sym reads.lines ∙ sym (append-nil ls))

-- the first lines of what is read, with what may come behind it, are the first of what was left
begins : (eol : ℕ) (left left' : Option (List ℕ)) (bytes : List ℕ) → Consumes left left' bytes
    → (later : List ℕ) × ((ls more : List (List ℕ)) → lines_by eol (bytes ++ later) ≡ ls ++ more → BeginWith eol left ls)
begins eol None left' bytes read = ([], λ ls more are. tt)
begins eol (Some all) None bytes read = absurd read
begins eol (Some all) (Some later) bytes read = (later, λ ls more are. (more, ap (lines_by eol) read ∙ are))

module _ {eol : ℕ} {left left' : Option (List ℕ)} {unread : List ℕ} {ls : List (List ℕ)} (reads : Reads eol left left' unread ls) where
  -- lines that are behind those that are taken
  pub next_lines : {more : List (List ℕ)} {rest : List ℕ} → Splits eol unread more rest → BeginWith eol left (ls ++ more)
  next_lines {rest = rest} it = grind (arith, nat_tests, common_steps, begins, splits_both)

  pub reads_on : {unread' : List ℕ} {left'' : Option (List ℕ)} {came : NextLine} → Filled eol unread unread' left' left'' came
      → Reads eol left left'' unread' ls
  reads_on filled = grind (arith, nat_tests, common_steps, Consumes-trans, splits_behind)

  -- some lines more are taken
  pub takes_on : {len : ℕ} {more : List (List ℕ)} (rest : List ℕ) → rest ≡ drop len unread → Takes eol unread len more
      → Reads eol left left' rest (ls ++ more)
  takes_on {more = more} rest is takes = grind (arith, nat_tests, common_steps, splits_both)

  -- the input has ended
  pub reads_to_end : IsAtEnd left' → ReadsInput eol true left left' (ls ++ lines_by eol unread)
  reads_to_end ended = grind (arith, nat_tests, common_steps, Consumes-whole, first_all)

  -- the input has failed
  pub reads_to_fault : IsBare eol unread → ReadsInput eol false left left' ls
  reads_to_fault bare = grind (arith, nat_tests, common_steps, whole_are reads.splits bare)

  -- a beginning of what is due of these lines and some that come next was written
  pub breaks_within : {before broke : Standing} {more : List (List ℕ)} {rest : List ℕ} → Splits eol unread more rest
      → Leads before broke (ls ++ more) → BreaksInput before broke eol left
  breaks_within splits breaks = (_, next_lines splits, breaks)

-- what is left when the lines are taken has no end
pub bare_rest : {eol : ℕ} {bytes : List ℕ} {len : ℕ} {ls : List (List ℕ)} (rest : List ℕ) → rest ≡ drop len bytes → Takes eol bytes len ls
    → IsBare eol rest
bare_rest {eol} rest is takes = subst (IsBare eol) (sym is) takes.bare
