use Rattle.hash_ring.proofs.Lemmas.{◌∙◌, ◌≤◌, ◌<◌, ◌+◌, ◌-◌, List, length, get_or, map, take, drop, sym, subst, arith, ◌++◌, get_or_default, Point, IsBefore, opened_up, AllPairs, IsPermutation, before_if_less, before_if_not_less, opened_in_order, IsMerged, all_in_order, all_merged, front_kept, last_other, left_more, placed, right_more, rules}
use Rattle.hash_ring.proofs.points.merge_backward.Goals as goal
use Rattle.hash_ring.proofs.points.merge_backward.Goals.{else-right-gt0-via-then-right-gt0+else-lt, else-right-gt0-via-else-right-gt0}

pub loop-left-preserved-then-lt : goal.loop-left-preserved-then-lt
loop-left-preserved-then-lt c =
    let old = c.args.points.now in
    let l = c.loop-left in
    let ys = c.args.added.now in
    let y : Point = get_or ys (l.right - 1) (record { place = 0; node = 0 }) in
    let xs = map (opened_up c.args.index) (take c.args.others old) in
    let within : l.right ≤ length ys = l.invariant.merged.right_within in
    let there : c.args.others ≤ length old = omega (arith, c.requires.room) in
    let before : IsBefore c.opened_up-point.result y = before_if_less c.opened_up-point.result y (sym c.if-lt.ensures) in
    record {
      within = l.invariant.within;
      front = front_kept old l.points l.left l.left (l.left + (l.right - 1)) y (omega arith) (omega arith) l.invariant.front;
      merged = subst (λ done. IsMerged xs ys done l.left (l.right - 1))
          (sym (placed l.points (l.left + (l.right - 1)) (l.left + l.right) y (omega arith)
          (omega (arith, c.requires.room, l.auto.points))))
          (right_more xs ys (drop (l.left + l.right) l.points) l.left (l.right - 1) l.right y
          (opened_in_order c.args.index (take c.args.others old) c.requires.others_ordered) c.requires.added_ordered l.invariant.merged
          (omega arith)
          (get_or_default ys (l.right - 1) _ y (omega arith))
          (λ d some. search (rules, last_other)));
    }

pub loop-left-preserved : goal.loop-left-preserved
loop-left-preserved c =
    let old = c.args.points.now in
    let l = c.loop-left in
    let xs = map (opened_up c.args.index) (take c.args.others old) in
    let ys = c.args.added.now in
    let y = c.opened_up-point.result in
    let within : l.right ≤ length ys = l.invariant.merged.right_within in
    let there : c.args.others ≤ length old = omega (arith, c.requires.room) in
    let later : 0 < l.right → IsBefore (get_or ys (l.right - 1) (record { place = 0; node = 0 })) y = λ some.
    search (rules, else-right-gt0-via-then-right-gt0+else-lt, before_if_not_less, else-right-gt0-via-else-right-gt0) in
    record {
      within = omega (arith, l.invariant.within);
      front = front_kept old l.points l.left (l.left - 1) (l.left - 1 + l.right) y (omega arith) (omega arith) l.invariant.front;
      merged = subst (λ done. IsMerged xs ys done (l.left - 1) l.right)
          (sym (placed l.points (l.left - 1 + l.right) (l.left + l.right) y (omega arith) (omega (arith, c.requires.room, l.auto.points))))
          (left_more xs ys (drop (l.left + l.right) l.points) (l.left - 1) l.left l.right y
          (opened_in_order c.args.index (take c.args.others old) c.requires.others_ordered) c.requires.added_ordered l.invariant.merged
          (omega arith)
          (c.opened_up-point.ensures
          ∙ sym (last_other c.args.index c.args.others l.left old l.points _ y (omega arith) l.invariant.within there
          l.invariant.front))
          (λ d some. subst (λ (p : Point). IsBefore p y) (get_or_default ys (l.right - 1) _ d (omega arith)) (later some)));
    }

pub returns-clause-merged : goal.returns-clause-merged
returns-clause-merged c =
    let xs = map (opened_up c.args.index) (take c.args.others c.args.points.now) in
    let rest = drop c.loop-left.right c.loop-left.points in
    subst (λ (front : List Point). IsPermutation (xs ++ c.args.added.now) (front ++ rest)) (sym c.copy_from_slice.ensures.after)
    (all_merged xs c.args.added.now c.loop-left.points c.loop-left.left c.loop-left.right c.loop-left.invariant.merged
    c.loop-left-test.false)

pub returns-clause-ordered : goal.returns-clause-ordered
returns-clause-ordered c =
    let xs = map (opened_up c.args.index) (take c.args.others c.args.points.now) in
    let rest = drop c.loop-left.right c.loop-left.points in
    subst (λ (front : List Point). AllPairs IsBefore (front ++ rest)) (sym c.copy_from_slice.ensures.after)
    (all_in_order xs c.args.added.now c.loop-left.points c.loop-left.left c.loop-left.right c.loop-left.invariant.merged
    c.loop-left-test.false
    c.requires.added_ordered)
