use Rattle.hash_ring.proofs.Lemmas.{Bool, List, ◌≡◌, ◌≤◌, ◌∙◌, ap, sym, subst, length, T, ◌↔◌, IsTrue, is_sorted, length-map, All-map, All-permutation, IsPermutation-map, IsPermutation-sym, length_permutation, order_does_not_show, Node, ArePoints, pair_of, pairs, KeysDiffer-permutation, all_put_in, by_bytes, entries_are, rising_differ, sorted_rise, arith, rules, nat_tests, common_steps}
use Rattle.std.specs.FinMap as fin
use Rattle.hash_ring.proofs.Ring.from_nodes.Goals as goal

rise : (sorted now : List Node) (b : Bool) → now ≡ sorted → IsTrue b ↔ T (is_sorted by_bytes (pairs now)) → IsTrue b
    → T (is_sorted by_bytes (pairs sorted))
rise sorted now b is told rises = subst (λ ns. T (is_sorted by_bytes (pairs ns))) is (told.0 rises)

pub returns-then-not-names_rise-clause-err : goal.returns-then-not-names_rise-clause-err
returns-then-not-names_rise-clause-err g c = grind (arith, nat_tests, common_steps, sorted_rise, by_bytes)

pub invariant_of-result : goal.invariant_of-result
invariant_of-result g c =
    let sorted = c.sort_unstable.new.self.items in
    record {
      named = rise _ _ _ c.deref.ensures.value c.names_rise.ensures c.if-not-names_rise.false;
      weighed = All-map (λ node. 1 ≤ node.1) pair_of sorted
          (All-permutation (λ (node : Node). 1 ≤ node.weight) _ sorted c.sort_unstable.ensures.permutation c.requires);
      just = subst (λ ns. ArePoints g.H.Piecewise.hash_of (pairs ns) c.in-Ok.points.items) c.deref-2.ensures.value c.in-Ok.ensures.just;
      ordered = c.in-Ok.ensures.ordered;
    }

pub returns-in-Ok-clause-built : goal.returns-in-Ok-clause-built
returns-in-Ok-clause-built g c =
    let sorted = c.sort_unstable.new.self.items in
    let nodes = c.args.nodes.items in
    sym (all_put_in (pairs sorted) (rise _ _ _ c.deref.ensures.value c.names_rise.ensures c.if-not-names_rise.false))
    ∙ order_does_not_show fin.empty (pairs sorted) (pairs nodes)
    (rising_differ (pairs sorted) (rise _ _ _ c.deref.ensures.value c.names_rise.ensures c.if-not-names_rise.false))
    (IsPermutation-map pair_of sorted nodes (IsPermutation-sym nodes sorted c.sort_unstable.ensures.permutation))

pub returns-in-Ok-clause-differ : goal.returns-in-Ok-clause-differ
returns-in-Ok-clause-differ g c =
    let sorted = c.sort_unstable.new.self.items in
    let nodes = c.args.nodes.items in
    KeysDiffer-permutation (pairs sorted) (pairs nodes)
    (IsPermutation-map pair_of sorted nodes (IsPermutation-sym nodes sorted c.sort_unstable.ensures.permutation))
    (rising_differ (pairs sorted) (rise _ _ _ c.deref.ensures.value c.names_rise.ensures c.if-not-names_rise.false))

pub returns-in-Ok-clause-count : goal.returns-in-Ok-clause-count
returns-in-Ok-clause-count g c =
    let sorted = c.sort_unstable.new.self.items in
    fin.len-entries _ ∙ ap length (entries_are (pairs sorted)
    (rise _ _ _ c.deref.ensures.value c.names_rise.ensures c.if-not-names_rise.false)) ∙ length-map sorted pair_of
    ∙ length_permutation _ sorted c.sort_unstable.ensures.permutation

pub returns-in-Err-clause-err : goal.returns-in-Err-clause-err
returns-in-Err-clause-err g c = search (rules, rising_differ, rise)
