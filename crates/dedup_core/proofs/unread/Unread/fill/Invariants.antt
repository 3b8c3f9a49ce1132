use Rattle.dedup_core.proofs.Common.{◌≡◌, ◌++◌, ◌-◌, ◌^◌, ℕ, List, length, Consumes, IsBare}
use Rattle.dedup_core.proofs.unread.Unread.fill.Given as goal

-- what was read so far has no end
abbrev pub invariant-loop-error : goal.invariant-loop-error
invariant-loop-error g l = (text : List ℕ) × (l.self ≡ l.initial.self ++ text) × IsBare l.eol text
    × Consumes (g.R.Read.remaining l.initial.r) (g.R.Read.remaining l.r) text

abbrev pub decreases-loop-error : goal.decreases-loop-error
decreases-loop-error g l = 2 ^ 64 - length l.self
