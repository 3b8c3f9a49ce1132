use Rattle.dedup_core.proofs.Lemmas.{◌≡◌, take, AreNext, behind}
use Rattle.dedup_core.proofs.ahead.look.Given as goal

-- what is left comes behind the lines that are found
abbrev pub invariant-loop-i : goal.invariant-loop-i
invariant-loop-i g l = (l.rest ≡ behind (take l.i l.found) l.bytes) × AreNext l.eol (g.T.LineTask.tag_of l.task) l.bytes (take l.i l.found)
