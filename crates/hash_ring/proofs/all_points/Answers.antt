use Rattle.hash_ring.proofs.Lemmas.{◌<◌, ◌≤◌, ◌+◌, [], inl, inr, arith, sym, ap, ◌∙◌, subst, ⊎_elim, cases_lt, get_or-map, length-map, pair_of, pairs, AreThese, ArePoints-permutation, in_order, is_there, one_node_more}
use Rattle.hash_ring.proofs.all_points.Goals as goal

pub loop-index-preserved : goal.loop-index-preserved
loop-index-preserved g c =
    let hash = g.H.Piecewise.hash_of in
    let nodes = c.args.nodes.now in
    let i = c.loop-index.index in
    let node = c.index-nodes-index.result in
    subst (AreThese hash (pairs nodes) (λ k. k < i + 1)) (sym c.in_ok-push_points.ensures.ok)
    (one_node_more hash (pairs nodes) (λ k. k < i) (λ k. k < i + 1) c.loop-index.points.items i (pair_of node) c.loop-index.invariant
    (get_or-map pair_of nodes i node ([], 0) c.loop-index-test.true ∙ ap pair_of (sym c.index-nodes-index.is))
    (λ k l. ⊎_elim inl (λ (high : i ≤ k). inr (omega arith)) (cases_lt k i)))

pub returns-clause-just : goal.returns-clause-just
returns-clause-just g c =
    let nodes = pairs c.args.nodes.now in
    let hash = g.H.Piecewise.hash_of in
    let long = length-map c.args.nodes.now pair_of in
    ArePoints-permutation hash nodes _ _ c.sort_unstable.ensures.permutation
    (record {
      real = c.loop-index.invariant.real;
      all = λ i place of. c.loop-index.invariant.all i place (omega (arith, is_there hash nodes i place of, long)) of;
    })

pub returns-clause-ordered : goal.returns-clause-ordered
returns-clause-ordered g c = in_order _ c.sort_unstable.ensures.sorted
