use Rattle.hash_c.proofs.Common.{◌≡◌, take, laid_over}
use Rattle.hash_c.proofs.kinds.hashers_name.Given as goal

-- the first i bytes of the name are written
abbrev pub invariant-loop-i : goal.invariant-loop-i
invariant-loop-i l = l.name ≡ laid_over (take l.i l.told) l.initial.name
