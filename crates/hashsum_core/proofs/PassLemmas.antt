-- Lists that pass.
use Rattle.hashsum_core.proofs.Common.{◌≡◌, inl, inr, ◌⊎◌, ℕ, ◌<◌, suc, zero-lt-suc, arith, Bool, true, false, ◌&&◌, nat_lt, List, [], ◌∷◌, Option, Ok, All, fold, Any, nat_tests, and_parts, All-cons, All-nil, All-push, Sum, Opens, counted, passes, counts_of, AreListed, EndsListOf, Checking, fails, is_same, HasPassed, LineCheck, Counts, next_list, no_list, rules, common_steps}

-- the counts behind others
abbrev after : Counts → List (List ℕ × LineCheck) → Counts
after counts lines = fold (λ c line. counted c line.1) counts lines

-- no line is counted that fails
abbrev NoneCounted : (strict : Bool) → Counts → Type 0
NoneCounted strict counts =
    (counts.different ≡ 0) × (counts.unread ≡ 0) × (counts.unkeyed ≡ 0) × ((strict && nat_lt 0 counts.improper) ≡ false)

-- a count never goes down, and goes up at a line that fails
none_before : (strict : Bool) (counts : Counts) (came : LineCheck) → NoneCounted strict (counted counts came)
    → (fails strict came ≡ false) × NoneCounted strict counts
none_before strict counts came none = grind (arith, nat_tests, none)

none_fails : (strict : Bool) (counts : Counts) (lines : List (List ℕ × LineCheck)) → NoneCounted strict (after counts lines)
    → All (λ line. fails strict line.1 ≡ false) lines × NoneCounted strict counts
none_fails strict counts [] none = (All-nil (λ line. fails strict line.1 ≡ false), none)
none_fails strict counts (line ∷ lines) none =
    let (later, still) = none_fails strict (counted counts line.1) lines none in
    let (this, before) = none_before strict counts line.1 still in
    (All-cons (λ l. fails strict l.1 ≡ false) line lines this later, before)

same_before : (counts : Counts) (came : LineCheck) → 0 < (counted counts came).same → (0 < counts.same) ⊎ (is_same came ≡ true)
same_before counts came some = grind (arith, some)

some_same : (counts : Counts) (lines : List (List ℕ × LineCheck)) → 0 < (after counts lines).same
    → (0 < counts.same) ⊎ Any (λ line. is_same line.1 ≡ true) lines
some_same counts [] some = inl some
some_same counts (line ∷ lines) some = elim (some_same (counted counts line.1) lines some) [
  | inl more ↦ grind (arith, nat_tests, common_steps, same_before, zero-lt-suc)
  | inr later ↦ (let (k, x, below, is, holds) = later in inr (suc k, x, omega (arith, below), is, holds))
]

-- lines whose counts pass
lines_pass : (strict : Bool) (lines : List (List ℕ × LineCheck)) → passes strict (counts_of lines) ≡ true
    → All (λ line. fails strict line.1 ≡ false) lines × Any (λ line. is_same line.1 ≡ true) lines
lines_pass strict lines is = search (rules, none_fails, some_same)

module _ (kinds : List Sum) (checking : Checking) (opens : Opens) where
  list_passed : (list : List ℕ) (w w' : Option (List ℕ)) → EndsListOf kinds checking opens list w w' (Ok true)
      → HasPassed kinds checking opens list
  list_passed list w w' (inl (held, can, inl (counts, (lines, are, told, are_told, counts_are), is))) =
      grind (arith, nat_tests, common_steps, lines_pass, none_fails)
  list_passed list w w' (inl (held, can, inr (ends, is))) = cc
  list_passed list w w' (inr (error, can, kept, is)) = cc

  pub lists_passed : {lists : List (List ℕ)} {w w' : Option (List ℕ)} {all : Bool} → AreListed kinds checking opens lists w w' all
      → all ≡ true → All (HasPassed kinds checking opens) lists
  lists_passed no_list is = All-nil (HasPassed kinds checking opens)
  lists_passed (next_list {lists = ls} {written = w} {between = b} {written' = w'} {all = all} list true before ended) is =
      All-push (HasPassed kinds checking opens) ls list (lists_passed before (and_parts all true is).0) (list_passed list b w' ended)
  lists_passed (next_list {all = all} list false before ended) is = let no : false ≡ true = (and_parts all false is).1 in cc
