use Rattle.hash_cuts.proofs.Common.{◌-◌, ◌≤◌}
use Rattle.hash_cuts.proofs.CutLemmas.{HasRolled}
use Rattle.hash_cuts.proofs.cuts.Cuts.first_cut.Given as goal

abbrev pub invariant-fours : goal.invariant-fours
invariant-fours l = record {
  rolled : HasRolled l.self l.text l.place l.hash;
  from : l.self.least ≤ l.place;
  within : l.place ≤ l.end;
}

abbrev pub decreases-fours : goal.decreases-fours
decreases-fours l = l.end - l.place

abbrev pub invariant-loop-place : goal.invariant-loop-place
invariant-loop-place l = HasRolled l.self l.text l.place l.hash
