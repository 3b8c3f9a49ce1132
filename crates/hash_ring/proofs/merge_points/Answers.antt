use Rattle.hash_ring.proofs.Lemmas.{◌≡◌, ◌∙◌, ◌++◌, List, ap, sym, subst, length, map, take, take_at, IsPermutation-append_right, IsPermutation-trans, Point, opened_up, pair_of, points_of, IsPermutation, over, arith, nat_tests, common_steps}
use Rattle.hash_ring.proofs.merge_points.Goals as goal

pub returns-clause-merged : goal.returns-clause-merged
returns-clause-merged g c =
    let old = c.args.points.now in
    let its = points_of g.H.Piecewise.hash_of (pair_of c.args.node.now) c.args.index in
    let added = c.in_ok-added.added.items in
    let both = c.extend_from_slice.new.self in
    let merged = c.merge_backward.new.points in
    let others = map (opened_up c.args.index) old.items in
    let behind : both.items ≡ old.items ++ added =
    c.in_ok-extend_from_slice.ensures.items ∙ ap (λ (ps : List Point). old.items ++ ps) c.deref.ensures.value in
    let front : take c.len-others.result c.deref_mut.result.now ≡ old.items =
    ap (take c.len-others.result) (c.deref_mut.ensures.value ∙ behind)
    ∙ take_at old.items added c.len-others.result (sym (c.len-others.ensures ∙ old.ok.0)) in
    let long : length merged ≡ length both.items = c.merge_backward.auto.points ∙ ap length c.deref_mut.ensures.value in
    let all : IsPermutation (others ++ added) merged =
    grind (arith, nat_tests, common_steps) in
    subst (λ (ps : List Point). IsPermutation (others ++ its) ps) (sym (over merged both.items both.len long both.ok.0))
    (IsPermutation-trans (others ++ its) (others ++ added) merged (IsPermutation-append_right others its added c.in_ok-added.ensures.just)
    all)
