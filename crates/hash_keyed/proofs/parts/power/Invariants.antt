use Rattle.hash_keyed.proofs.Common.{◌≡◌, ◌*◌, ◌%◌, ◌^◌, ◌<◌, prime61}
use Rattle.hash_keyed.proofs.parts.power.Given as goal

-- the digits of the exponent that are left make the rest of the power
abbrev pub invariant-loop-left : goal.invariant-loop-left
invariant-loop-left l = record {
  power_in : l.power < 2305843009213693960;
  square_in : l.square < 2305843009213693960;
  same : (l.power * l.square ^ l.left) % prime61 ≡ l.fn.key ^ l.fn.exponent % prime61;
}

abbrev pub decreases-loop-left : goal.decreases-loop-left
decreases-loop-left l = l.left
