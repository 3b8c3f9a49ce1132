use Rattle.dedup_core.proofs.Common.{ℕ, List, ◌≡◌, ◌≤◌, ◌-◌, drop, length, AreNext, Splits, At, Leads}
use Rattle.dedup_core.proofs.lines.take_lines.Given as goal

-- what is left of the bytes, behind the lines that were taken
abbrev pub invariant-loop-found : goal.invariant-loop-found
invariant-loop-found g l = (ls : List (List ℕ)) × Splits l.eol l.bytes ls l.rest
    × Leads (At (g.T.LineTask.output l.eol) (g.T.LineTask.taken l.eol l.initial.task) (g.W.Write.contents l.initial.w))
    (At (g.T.LineTask.output l.eol) (g.T.LineTask.taken l.eol l.task) (g.W.Write.contents l.w)) ls
    × (l.rest ≡ drop (length l.bytes - length l.rest) l.bytes) × (length l.rest ≤ length l.bytes)
    × AreNext l.eol (g.T.LineTask.tag_of l.task) l.rest l.ahead

abbrev pub decreases-loop-found : goal.decreases-loop-found
decreases-loop-found g l = length l.rest
