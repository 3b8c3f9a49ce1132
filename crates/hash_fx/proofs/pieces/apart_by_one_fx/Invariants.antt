use Rattle.hash_fx.proofs.Common.{drop}
use Rattle.std.proofs.Common.{◌↔◌}
use Rattle.hash_laws.specs.Text.{joined}
use Rattle.hash_fx.proofs.OneApart.{OneApart}
use Rattle.hash_fx.proofs.TestLemmas.{RestApart}
use Rattle.hash_fx.proofs.pieces.apart_by_one_fx.Given as goal

-- the pieces that are left decide
abbrev pub invariant-loop-i : goal.invariant-loop-i
invariant-loop-i l = OneApart (joined l.x) (joined l.y) ↔ RestApart l.apart (drop l.i l.x) (drop l.i l.y)
