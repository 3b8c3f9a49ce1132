use Rattle.hash_cuts.proofs.Common.{length, ◌-◌}
use Rattle.hash_cuts.proofs.EndLemmas.{AreEnds}
use Rattle.hash_cuts.proofs.cuts.Cuts.ends.Given as goal

abbrev pub invariant-loop-count : goal.invariant-loop-count
invariant-loop-count l = AreEnds l.self l.text l.initial.ends l.ends l.count l.place

abbrev pub decreases-loop-count : goal.decreases-loop-count
decreases-loop-count l = length l.initial.ends - l.count
