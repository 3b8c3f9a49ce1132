-- Inputs, one behind the other.
use Rattle.dedup_core.proofs.Common.{◌≡◌, ℕ, ◌+◌, ◌<◌, ◌&&◌, inr, Bool, true, false, Result, Ok, Err, List, [], ◌∷◌, ◌++◌, length, map, set, get_or, take, drop, Option, None, Some, ap, sym, ◌∙◌, refl, subst, take-append-drop, arith, drop-cons, is_some, IsErr, Appends, Keeps, Appends-kept, Appends-nil, and_parts, false≢true, drop-drop, drop-set-lt, map-append, take_more, take_more_set, AppendsPart, list_all, flat_map-append, lines_by, part_behind, At, BeginWith, BreaksInput, Broke, Leads, AreRead, ReadsInput, AllBeginWith, BreaksBehind, EndsBehind, EndsTaking, NextBeginsWith, Run}
use Rattle.std.proofs.lemmas.List.{append-nil}
use Rattle.std.specs.List.{flat_map}
use Rattle.std.proofs.lemmas.List.Folds.{flat_map-map, list_all-append}
use Rattle.dedup_core.specs.Inputs.AreRead.{behind, none}
use Rattle.streams.specs.declared.failure.Failure.{Failure}
use Rattle.dedup_core.specs.declared.failure.TooMany.{TooMany}
use Rattle.dedup_core.specs.declared.run.Ended.{Ended}
use Rattle.dedup_core.specs.declared.run.Ended.TheVariants.{Whole, InputFailed}

-- ---- the first lines of inputs

module _ {eol : ℕ} where
  all_begin : {ended : Bool} {done done' : List (Option (List ℕ))} {before : List (List ℕ)} (lefts more : List (Option (List ℕ)))
      (ls now : List (List ℕ)) → AreRead eol ended done done' before → lefts ≡ done ++ more → NextBeginsWith eol more now
      → ls ≡ before ++ now → AllBeginWith eol lefts ls
  all_begin lefts more ls now read is next lines =
      record { done = _; done' = _; ended = _; before = _; read = read; more = more; is = is; now = now; next = next; lines = lines }

  -- a fault before any input is read
  pub part_at_start : (output : List (List ℕ) → List ℕ) (lefts : List (Option (List ℕ))) (w w' : Option (List ℕ))
      → output [] ≡ [] → Keeps w w' → (ls : List (List ℕ)) × AllBeginWith eol lefts ls × AppendsPart w w' (output ls)
  part_at_start output lefts w w' nothing keeps = (
    [],
    all_begin lefts lefts [] [] none refl (next lefts) refl,
    ([], [], sym nothing, Appends-kept _ _ _ _ (Appends-nil w) keeps),
  )
    where
      next : (lefts : List (Option (List ℕ))) → NextBeginsWith eol lefts []
      next [] = refl
      next (None ∷ more) = tt
      next (Some bytes ∷ more) = (lines_by eol bytes, refl)

-- ---- how far the inputs are taken

-- the inputs before a place are read, and their lines are taken
pub record SoFar {R : Type 0} (remaining : R → Option (List ℕ)) (output : List (List ℕ) → List ℕ) (taken : List (List ℕ) → Type 0)
    (eol place : ℕ) (inputs inputs' : List R) (whole : Bool) (w w' : Option (List ℕ)) : Type 0 where
  pub ls : List (List ℕ)
  pub read : AreRead eol whole (map remaining (take place inputs)) (map remaining (take place inputs')) ls
  pub at : At output taken w' w ls
  pub rest : drop place inputs' ≡ drop place inputs

module _ {R : Type 0} {remaining : R → Option (List ℕ)} {output : List (List ℕ) → List ℕ} {taken : List (List ℕ) → Type 0}
    {eol : ℕ} where
  pub so_far_start : (inputs : List R) (w w' : Option (List ℕ)) → taken [] → output [] ≡ [] → Keeps w w'
      → SoFar remaining output taken eol 0 inputs inputs true w w'
  so_far_start inputs w w' begun nothing keeps = record {
    ls = [];
    read = none;
    at = record { stands = begun; writes = subst (Appends w w') (sym nothing) (Appends-kept _ _ _ _ (Appends-nil w) keeps) };
    rest = refl;
  }

  module _ {place : ℕ} {inputs inputs' : List R} {whole : Bool} {w w' : Option (List ℕ)}
      (so_far : SoFar remaining output taken eol place inputs inputs' whole w w') where
    module _ (d : R) (below : place < length inputs) (below' : place < length inputs') where
      -- one input more is read
      pub so_far_more : {taken' : List (List ℕ) → Type 0} {w'' : Option (List ℕ)} (later : R) (is_whole whole' : Bool)
          (more : List (List ℕ)) → (whole && is_whole) ≡ whole'
          → ReadsInput eol is_whole (remaining (get_or inputs' place d)) (remaining later) more
          → Leads (At output taken w') (At output taken' w'') more
          → SoFar remaining output taken' eol (place + 1) inputs (set inputs' place later) whole' w w''
      so_far_more later is_whole whole' more ends reads leads =
          let next = drop-cons inputs place d below in
          let next' = drop-cons inputs' place d below' in
          let rest = so_far.rest in
          let same : get_or inputs' place d ≡ get_or inputs place d = cc in
          record {
            ls = so_far.ls ++ more;
            read = rw (← ends, take_more inputs place d below, ← same, take_more_set inputs' place later below')
                (rw (
                  map-append remaining (take place inputs) (get_or inputs' place d ∷ []),
                  map-append remaining (take place inputs') (later ∷ []),
                ) (behind so_far.read reads));
            at = leads.on w so_far.ls so_far.at;
            rest = drop-set-lt (place + 1) inputs' place later (omega arith) ∙ sym (drop-drop 1 place inputs') ∙ ap (drop 1) rest
                ∙ drop-drop 1 place inputs;
          }

      -- the lines of the inputs begin with those that are taken and those with which the next begins
      begins_next : (now : List (List ℕ)) → BeginWith eol (remaining (get_or inputs' place d)) now
          → AllBeginWith eol (map remaining inputs) (so_far.ls ++ now)
      begins_next now begins =
          all_begin (map remaining inputs) (map remaining (drop place inputs)) _ now so_far.read
          (ap (map remaining) (sym (take-append-drop place inputs)) ∙ map-append remaining (take place inputs) (drop place inputs))
          (subst (λ xs. NextBeginsWith eol (map remaining xs) now) (sym (drop-cons inputs' place d below') ∙ so_far.rest) begins) refl

      -- a beginning of what is due of the next input was written
      pub part_within : {w'' : Option (List ℕ)}
          → BreaksInput (At output taken w') (Broke output w'') eol (remaining (get_or inputs' place d))
          → (ls : List (List ℕ)) × AllBeginWith eol (map remaining inputs) ls × AppendsPart w w'' (output ls)
      part_within (now, begins, breaks) = (so_far.ls ++ now, begins_next now begins, breaks.on w so_far.ls so_far.at)

-- ---- what is written once all lines are taken

-- a fault in what is written behind all lines
pub breaks_behind_all : {output : List (List ℕ) → List ℕ} {taken : List (List ℕ) → Type 0} (eol : ℕ) (run : Run)
    (w : Option (List ℕ)) (how : Ended) → EndsTaking (λ ls. []) taken eol run (Ok how)
    → ((ls : List (List ℕ)) → taken ls → AppendsPart run.written' w (output ls))
    → BreaksBehind output eol (record { left = run.left; left' = run.left'; written = run.written; written' = w })
breaks_behind_all eol run w Whole (ls, read, writes, now) part =
    inr (true, ls, read, part_behind _ _ _ _ _ writes (part ls now))
breaks_behind_all eol run w InputFailed (ls, read, writes, now) part =
    inr (false, ls, read, part_behind _ _ _ _ _ writes (part ls now))

pub ends_broken : {output : List (List ℕ) → List ℕ} (eol : ℕ) (run : Run) (result : Result Ended (Failure TooMany)) → IsErr result
    → BreaksBehind output eol run → EndsBehind output eol run result
ends_broken eol run (Ok ended) wrong broke = absurd (false≢true wrong)
ends_broken eol run (Err fault) is broke = broke

-- ---- inputs that are read to their ends

-- the bytes, where they are known
bytes_of : Option (List ℕ) → List ℕ
bytes_of None = []
bytes_of (Some bytes) = bytes

read_whole : (eol : ℕ) (left left' : Option (List ℕ)) (more : List (List ℕ)) (ended : Bool) → ended ≡ true → is_some left ≡ true
    → ReadsInput eol ended left left' more → more ≡ lines_by eol (bytes_of left)
unfolding bytes_of
read_whole eol None left' more ended is known reads = absurd (false≢true known)
read_whole eol (Some bytes) left' more ended is known reads = rw (reads.lines, is, reads.all is)

all_whole : {eol : ℕ} {ended : Bool} {lefts lefts' : List (Option (List ℕ))} {ls : List (List ℕ)} → AreRead eol ended lefts lefts' ls
    → ended ≡ true → list_all is_some lefts ≡ true → ls ≡ flat_map (λ left. lines_by eol (bytes_of left)) lefts
all_whole none is known = refl
all_whole {eol}
    (behind {ended = a} {is_ended = b} {lefts = lefts} {left = left} {left' = left'} {more = more} before reads) is known =
    let (one, two) = and_parts a b is in
    let (first, last) = and_parts (list_all is_some lefts) (is_some left && true) (rw list_all-append at known) in
    rw (
      all_whole before one first,
      read_whole eol left left' more b two (and_parts (is_some left) true last).0 reads,
      flat_map-append (λ left. lines_by eol (bytes_of left)) lefts (left ∷ []),
      append-nil (lines_by eol (bytes_of left)),
    )

-- the lines are those of each input, one behind the other
pub lines_of_whole : (eol : ℕ) (texts : List (List ℕ)) (lefts : List (Option (List ℕ))) (ls : List (List ℕ))
    → AreRead eol true (map Some texts) lefts ls → ls ≡ flat_map (lines_by eol) texts
unfolding bytes_of
lines_of_whole eol texts lefts ls read =
    all_whole read refl (all_some texts) ∙ flat_map-map (λ left. lines_by eol (bytes_of left)) Some texts
  where
    all_some : (texts : List (List ℕ)) → list_all is_some (map Some texts) ≡ true
    all_some [] = refl
    all_some (text ∷ texts) = all_some texts
