use Rattle.hash_fx.proofs.Common.{take}
use Rattle.hash_fx.proofs.CutsLemmas.{CutsAgree}
use Rattle.hash_fx.proofs.pieces.same_cuts.Given as goal

abbrev pub invariant-loop-i : goal.invariant-loop-i
invariant-loop-i l = CutsAgree (take l.i l.x) (take l.i l.y)
