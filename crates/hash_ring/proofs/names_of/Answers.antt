use Rattle.hash_ring.proofs.Lemmas.{◌≡◌, ◌∙◌, get_or, sym, map-append, take_more, node_at, pairs, read, arith, nat_tests, common_steps}
use Rattle.hash_ring.proofs.names_of.Goals as goal

pub loop-at-preserved : goal.loop-at-preserved
loop-at-preserved c =
    let nodes = c.args.nodes.now in
    let indices = c.args.indices.now in
    let at = c.loop-at.at in
    let i = get_or indices at 0 in
    let name = c.as_slice.result in
    let is : (node_at (pairs nodes) i).0 ≡ name.now =
    read nodes c.index-nodes-indices.result i (c.requires at 0 c.loop-at-test.true)
    ∙ sym c.as_slice.ensures.value in
    grind (arith, nat_tests, common_steps, map-append, take_more)
