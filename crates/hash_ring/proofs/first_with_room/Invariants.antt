use Rattle.hash_ring.proofs.Lemmas.{false, FnReturnsAt, pairs, ring_of, AreRefusedRound, spot}
use Rattle.hash_ring.proofs.first_with_room.Given as goal

abbrev pub invariant-loop-steps : goal.invariant-loop-steps
invariant-loop-steps g l =
    AreRefusedRound g.H.Piecewise.hash_of (ring_of l.nodes) l.place (spot (pairs l.nodes) l.points l.first)
    (λ name. FnReturnsAt g.F.Fn l.has_room name false) l.steps
