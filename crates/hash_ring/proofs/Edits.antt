-- A ring with a node more, and with one less.
use Rattle.hash_ring.proofs.Common.{ℕ, ◌≡◌, ◌≢◌, ◌+◌, ◌-◌, ◌<◌, ◌≤◌, Bool, true, not, cond, ltb, ◌==◌, List, [], ◌++◌, map, length, get_or, take, drop, arith, sym, ap, ◌∙◌, subst, refl, ⊎_elim, inl, inr, filter, cases_eq, nat_tests, common_steps, elements, moves, append-nil, drop_all, map-append, take-map, drop-map, get_or-map, length-map, get_or-insert_at, All-contains, Contains-append_cases, All-append, All-drop, All-filter, All-map, All-take, filter_passes, AllPairs-filter, Contains-permutation, IsPermutation-append_right, IsPermutation-filter_both, IsPermutation-trans, Node, Point, IsPointOf, ArePoints, IsBefore, IsGapAt, IsRing, IsPointOfItsNode, closed_up, left_without, node_at, opened_up, pair_of, pairs, points_of, AllPairs, Contains, insert, remove, IsPermutation, rules}
use Rattle.hash_ring.proofs.PointLemmas.{ArePoints-permutation, mapped_in_order, one_node_more}
use Rattle.hash_ring.proofs.Names.{Pairs, inserted_sorted, removed_sorted}

pub pairs_insert : (nodes : List Node) (i : ℕ) (node : Node) → pairs (insert nodes i node) ≡ insert (pairs nodes) i (pair_of node)
pairs_insert nodes i node = grind (arith, common_steps, take-map, drop-map, map-append)

pub pairs_remove : (nodes : List Node) (i : ℕ) → pairs (remove nodes i) ≡ remove (pairs nodes) i
pairs_remove nodes i = grind (arith, common_steps, take-map, drop-map, map-append)

-- a list that was written over whole
pub over : {X : Type 0} (new old : List X) (n : ℕ) → length new ≡ length old → n ≡ length old → take n (new ++ drop (length new) old) ≡ new
over new old n same is = grind (arith, common_steps)

pub opened_in_order : (come : ℕ) (points : List Point) → AllPairs IsBefore points → AllPairs IsBefore (map (opened_up come) points)
opened_in_order come = mapped_in_order (opened_up come)
    (λ p q b. record { place = b.place; node = λ e. let upto : p.node ≤ q.node = b.node e in grind (arith, nat_tests) })

-- ---- the points of a ring with a node less
still_before : (gone : ℕ) (points : List Point) → AllPairs IsBefore points → AllPairs IsBefore (map (closed_up gone) points)
still_before gone = mapped_in_order (closed_up gone)
    (λ p q b. record { place = b.place; node = λ e. let upto : p.node ≤ q.node = b.node e in grind (arith, nat_tests) })

-- where a loop has gone over all points
pub all_gone_over : (gone kept index : ℕ) (points old : List Point) → length points ≡ length old → length old ≤ index
    → take kept points ++ left_without gone (drop index points) ≡ left_without gone old → take kept points ≡ left_without gone old
all_gone_over gone kept index points old long end all = grind (arith, append-nil, drop_all, long, end, all)

-- the one undoes the other
opened_then_closed : (at i : ℕ) → cond (ltb at (cond (ltb i at) i (i + 1))) (cond (ltb i at) i (i + 1) - 1) (cond (ltb i at) i (i + 1)) ≡ i
opened_then_closed at i = grind (arith, nat_tests)

reopened : (at : ℕ) (p : Point) → p.node ≢ at → opened_up at (closed_up at p) ≡ p
reopened at p other = grind (arith, nat_tests)

opened_other : (at i : ℕ) → cond (ltb i at) i (i + 1) ≢ at
opened_other at i is = grind (arith, nat_tests)

in_filter : (p : Point → Bool) (xs : List Point) (x : Point) → p x ≡ true → Contains xs x → Contains (filter p xs) x
in_filter p xs x e c =
    let q = λ (y : Point). not (p y) in
    ⊎_elim
    (λ kept. kept)
    (λ (lost : Contains (filter q xs) x). let no = All-contains (λ y. q y ≡ true) (filter q xs) x (filter_passes q xs) lost in cc)
    (Contains-append_cases (filter p xs) (filter q xs) x (Contains-permutation xs _ x (IsPermutation-filter_both p q (λ y. refl) xs) c))

in_map : (f : Point → Point) (xs : List Point) (x : Point) → Contains xs x → Contains (map f xs) (f x)
in_map f xs x c = (c.0, omega (arith, c.1, length-map xs f), get_or-map f xs c.0 x (f x) c.1 ∙ ap f c.2)

module _ (hash : List ℕ → ℕ) (es : Pairs) (gone : ℕ) (below : gone < length es) where
  abbrev rest : Pairs
  rest = remove es gone

  abbrev stays : Point → Bool
  stays p = not (p.node == gone)

  -- the node of an index was one index further, from that of the node that went on
  was_at : (p : Point) → node_at rest p.node ≡ node_at es (opened_up gone p).node
  was_at p = grind (arith, nat_tests, moves)

  other_node : (p : Point) → stays p ≡ true → p.node ≢ gone
  other_node p e is = grind (arith, nat_tests)

  test_of : (p : Point) → p.node ≢ gone → stays p ≡ true
  test_of p ne = grind (arith, nat_tests)

  still_just : (points : List Point) → ArePoints hash es points → ArePoints hash rest (left_without gone points)
  still_just points just = record {
    real = All-map (IsPointOfItsNode hash rest) (closed_up gone) (filter stays points)
        (λ k d l.
        let p = get_or (filter stays points) k d in
        let back = reopened gone p (other_node p (filter_passes stays points k d l)) in
        subst (λ node. IsPointOf hash node p.place) (sym (was_at (closed_up gone p) ∙ ap (λ (q : Point). node_at es q.node) back))
        (All-filter stays (IsPointOfItsNode hash es) points just.real k d l));
    all = λ i place of.
        let p : Point = record { place = place; node = i } in
        let was : Point = opened_up gone p in
        subst (Contains (left_without gone points)) (λ j. record { place = place; node = opened_then_closed gone i j })
        (in_map (closed_up gone) (filter stays points) was
        (in_filter stays points was (test_of was (opened_other gone i))
        (just.all was.node place (subst (λ node. IsPointOf hash node place) (was_at p) of))));
  }

  pub ring_without : (points : List Point) → IsRing hash es points → IsRing hash rest (left_without gone points)
  ring_without points ring = search (rules, removed_sorted, All-append, All-take, All-drop, still_just, still_before, AllPairs-filter)

-- ---- the points of a ring with a node more
module _ (hash : List ℕ → ℕ) (es : Pairs) (come : ℕ) (node : List ℕ × ℕ) (within : come ≤ length es) where
  abbrev more : Pairs
  more = insert es come node

  shifted : (p : Point) → node_at more (opened_up come p).node ≡ node_at es p.node
  shifted p = grind (arith, nat_tests, moves)

  pub ArePoints-insert : (points : List Point) → ArePoints hash es points
      → ArePoints hash more (map (opened_up come) points ++ points_of hash node come)
  ArePoints-insert points just =
      let new : node_at more come ≡ node = get_or-insert_at es come node ([], 0) within in
      let others = map (opened_up come) points in
      let all = one_node_more hash more (λ i. i ≢ come) (λ _. Unit {0}) others come node
      (record {
        real = All-map (IsPointOfItsNode hash more) (opened_up come) points
            (λ k d l. let p = get_or points k d in subst (λ node. IsPointOf hash node p.place) (sym (shifted p)) (just.real k d l));
        all = λ i place other of.
            let p : Point = record { place = place; node = i } in
            let was : Point = closed_up come p in
            let back = reopened come p other in
            subst (Contains others) back (in_map (opened_up come) points was
            (just.all was.node place (subst (λ n. IsPointOf hash n place)
            (ap (λ (q : Point). node_at more q.node) (sym back) ∙ shifted was) of)));
      })
      new (λ i _. ⊎_elim inr inl (cases_eq i come)) in
      record { real = all.real; all = λ i place of. all.all i place tt of }

-- a ring with a node more, whose points were put among the others
pub ring_merged : (hash : List ℕ → ℕ) (es : Pairs) (name : List ℕ) (w i : ℕ) (old added points : List Point) → IsRing hash es old
    → IsGapAt es name i → 1 ≤ w → IsPermutation (points_of hash (name, w) i) added
    → IsPermutation (map (opened_up i) old ++ added) points → AllPairs IsBefore points → IsRing hash (insert es i (name, w)) points
ring_merged hash es name w i old added points ring gap some its merged ordered =
    let others = map (opened_up i) old in
    let node : List ℕ × ℕ = (name, w) in record {
      named = inserted_sorted es ring.named name w i gap;
      weighed = grind (arith, elements, ring.weighed);
      just = ArePoints-permutation hash (insert es i node) (others ++ points_of hash node i) points
          (IsPermutation-trans (others ++ points_of hash node i) (others ++ added) points
          (IsPermutation-append_right others (points_of hash node i) added its) merged)
          (ArePoints-insert hash es i node gap.within old ring.just);
      ordered = ordered;
    }
