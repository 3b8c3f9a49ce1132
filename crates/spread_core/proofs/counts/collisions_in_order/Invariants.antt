use Rattle.spread_core.proofs.Common.{◌≡◌, ◌<◌, ◌≤◌, ◌-◌, ◌*◌, ◌^◌, get_or, take, collisions, times}
use Rattle.spread_core.proofs.counts.collisions_in_order.Given as goal

-- the pairs so far, and how many before the last hash equal it
abbrev pub invariant-loop-i : goal.invariant-loop-i
invariant-loop-i l = record {
  counted : l.total ≡ collisions (take l.i l.hashes);
  last : 0 < l.i → l.equal ≡ times (get_or l.hashes (l.i - 1) 0) (take (l.i - 1) l.hashes);
  small : l.total ≤ l.i * 2 ^ 64;
}
