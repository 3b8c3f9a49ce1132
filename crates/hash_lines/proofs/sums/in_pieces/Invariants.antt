use Rattle.hash_lines.proofs.Common.{length, take, fold, ◌-◌, ◌≡◌, ◌%◌, ◌≤◌, ◌⊎◌, cut}
use Rattle.hash_lines.proofs.sums.in_pieces.Given as goal

abbrev pub invariant-loop-done : goal.invariant-loop-done
invariant-loop-done g l = record {
  fed : g.H.Piecewise.state l.hasher ≡ fold g.H.Piecewise.after g.H.Piecewise.fresh (cut 4096 (take l.done l.text));
  within : l.done ≤ length l.text;
  whole : (l.done % 4096 ≡ 0) ⊎ (l.done ≡ length l.text);
}

abbrev pub decreases-loop-done : goal.decreases-loop-done
decreases-loop-done g l = length l.text - l.done
