use Rattle.hash_ring.proofs.Lemmas.{◌-◌, length, take, OnTrue_from, ring_merged}
use Rattle.hash_ring.proofs.points.add.Goals as goal

pub returns-then-may-clause-ring : goal.returns-then-may-clause-ring
returns-then-may-clause-ring c =
    let added = c.args.added.now in
    let others = take (length c.args.points.now - length added) c.args.points.now in
    OnTrue_from c.if-are_in_order-2.may _
    (λ _ hash nodes name ring gap some just.
    ring_merged hash nodes name (length added) c.args.index others added c.merge_backward.new.points ring gap some just
    c.merge_backward.ensures.merged c.merge_backward.ensures.ordered)
