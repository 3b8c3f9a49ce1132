use Rattle.hash_ring.proofs.Lemmas.{◌≡◌, ◌∙◌, ◌++◌, map, ap, sym, subst, get_or, arith, length-map, IsPermutation-refl, get_or-insert_at, Node, IsRing, nodes_of, opened_up, pair_of, pairs, points_of, insert, IsPermutation, absent, found, gap_read, inserted, len_of, pairs_insert, ring_merged, rules, nat_tests, common_steps}
use Rattle.std.specs.FinMap as fin
use Rattle.hash_ring.proofs.Ring.add.Goals as goal

pub returns-in-Ok-clause-err : goal.returns-in-Ok-clause-err
returns-in-Ok-clause-err g c = search (rules, found)

pub insert-requires : goal.insert-requires
insert-requires g c = search (rules, len_of)

pub index-requires : goal.index-requires
index-requires g c = search (rules, len_of)

pub remove-requires : goal.remove-requires
remove-requires g c = search (rules, len_of)

pub returns-in-Err-insert-clause-err : goal.returns-in-Err-insert-clause-err
returns-in-Err-insert-clause-err g c = grind (arith, nat_tests, common_steps, absent _ _ c.in-Err.at c.in-Err.ensures)

pub invariant_of-self-in-Ok-merge_points : goal.invariant_of-self-in-Ok-merge_points
invariant_of-self-in-Ok-merge_points g c =
    let hash = g.H.Piecewise.hash_of in
    let nodes = c.self.inside.nodes.items in
    let name = c.args.name.items in
    let at = c.in-Err.at in
    let node : Node = record { name = c.args.name; weight = c.args.weight } in
    let gap = gap_read nodes _ c.self.invariant.named c.self.view_is _ name c.deref.ensures.value at c.in-Err.ensures in
    let all : pairs c.insert.new.self.items ≡ insert (pairs nodes) at (name, c.args.weight) =
    ap pairs c.in_default.ensures.items ∙ pairs_insert nodes at node in
    let its : c.index.result.now ≡ node =
    c.index.ensures ∙ ap (λ ns. get_or ns at c.index.result.now) c.in_default.ensures.items
    ∙ get_or-insert_at nodes at node c.index.result.now (omega (arith, gap.within, length-map nodes pair_of)) in
    let old = c.self.inside.points.items in
    let points = c.merge_points.new.points.items in
    let merged = subst (λ (n : Node). IsPermutation
    (map (opened_up at) old ++ points_of hash (pair_of n) at) points) its c.in-Ok-merge_points.ensures.merged in
    subst (λ es. IsRing hash es points) (sym all)
    (ring_merged hash (pairs nodes) name c.args.weight at old (points_of hash (name, c.args.weight) at) points c.self.invariant gap
    c.requires (IsPermutation-refl _) merged c.in-Ok-merge_points.ensures.ordered)

pub returns-in-Ok-merge_points-clause-added : goal.returns-in-Ok-merge_points-clause-added
returns-in-Ok-merge_points-clause-added g c =
    let nodes = c.self.inside.nodes.items in
    let name = c.args.name.items in
    let at = c.in-Err.at in
    let gap = gap_read nodes _ c.self.invariant.named c.self.view_is _ name c.deref.ensures.value at c.in-Err.ensures in
    ap nodes_of (ap pairs c.in_default.ensures.items ∙ pairs_insert nodes at (record { name = c.args.name; weight = c.args.weight }))
    ∙ inserted (pairs nodes) c.self.invariant.named name c.args.weight at gap ∙ ap (λ m. fin.insert m name c.args.weight) c.self.view_is

pub returns-in-Ok-merge_points-clause-new : goal.returns-in-Ok-merge_points-clause-new
returns-in-Ok-merge_points-clause-new g c =
    ap (fin.get c.args.self.now) (sym c.deref.ensures.value) ∙ absent _ _ c.in-Err.at c.in-Err.ensures

pub returns-in-Err-merge_points-clause-err : goal.returns-in-Err-merge_points-clause-err
returns-in-Err-merge_points-clause-err g c =
    let nodes = c.self.inside.nodes.items in
    let at = c.in-Err.at in
    grind (arith, nat_tests, common_steps, len_of nodes _ c.self.invariant.named c.self.view_is, absent _ _ at c.in-Err.ensures)
