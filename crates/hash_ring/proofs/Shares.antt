-- How many places of the ring each node owns.
use Rattle.hash_ring.proofs.Common.{ℕ, ◌≡◌, ◌≢◌, ◌+◌, ◌-◌, replicate, ◌<◌, ◌≤◌, ◌^◌, cond, sum, T, slice_get, Some, List, [], ◌∷◌, ◌++◌, map, length, get_or, set, arith, sym, ap, ◌∙◌, subst, refl, ⊎_elim, is_sorted, cases_eq, cases_lt, nat_tests, get_or-replicate, length-replicate, get_or-map, get_or_default, length-map, length-set, same_lists, elements, sum_by-replicate, sum_by-append, sum_by-cons, sum_by-set, same, Point, AreShares, AreStretches, IsOwner, Nodes, Stretch, share_of, IsRing, index_round, node_at, nodes_of, rules}
use Rattle.hash_ring.proofs.Names.{Pairs, by_bytes, entries_are, name_tests}
use Rattle.hash_ring.proofs.Owners.{first_owner, none, one_index, spot}
use Rattle.hash_ring.proofs.PointLemmas.{is_there, places_rise}

stretches_append : (hash : List ℕ → ℕ) (m : Nodes) (from mid to : ℕ) (xs ys : List Stretch) → AreStretches hash m from mid xs
    → AreStretches hash m mid to ys
    → AreStretches hash m from to (xs ++ ys)
stretches_append hash m from mid to [] ys a b = subst (λ (n : ℕ). AreStretches hash m n to ys) (sym a) b
stretches_append hash m from mid to (s ∷ xs) ys a b = (a.0, a.1, a.2, stretches_append hash m s.to mid to xs ys a.3 b)

-- ---- the stretches of a ring
module _ (hash : List ℕ → ℕ) (es : Pairs) (points : List Point) (ring : IsRing hash es points) where
  first_named : (first k : ℕ) (p : Point) → index_round (length points) first 0 ≡ k → k < length points → p ≡ get_or points k p
      → (spot es points first 0).1 ≡ (node_at es p.node).0
  first_named first k p is below read =
      ap (λ (q : Point). (node_at es q.node).0) (ap (λ (k : ℕ). get_or points k none) is ∙ get_or_default points k none p below ∙ sym read)

  -- the node of the point at an index owns the places behind the points before it, up to it
  owned : (i at : ℕ) (p : Point) → i < length points → p ≡ get_or points i p
      → ((k : ℕ) (d : Point) → k < i → (get_or points k d).place < at) → at ≤ p.place → IsOwner hash (nodes_of es) at (node_at es p.node).0
  owned i at p below is before upto_it =
      subst (IsOwner hash (nodes_of es) at) (first_named i i p (grind (arith, nat_tests)) below is)
      (first_owner hash es points ring at i
      (record {
        within = omega arith;
        before = before;
        after = λ k d low l.
            let here : (get_or points i d).place ≡ p.place = ap (λ (q : Point). q.place) (get_or_default points i d p below ∙ sym is) in
            omega (arith, here, places_rise points ring.ordered i k d low l);
      })
      (omega arith))

  -- the first point's node owns the places behind all points
  owned_behind : (at : ℕ) (p : Point) → 0 < length points → p ≡ get_or points 0 p
      → ((k : ℕ) (d : Point) → k < length points → (get_or points k d).place < at) → IsOwner hash (nodes_of es) at (node_at es p.node).0
  owned_behind at p some is before =
      let n = length points in
      subst (IsOwner hash (nodes_of es) at) (first_named n 0 p (grind (arith, nat_tests)) some is)
      (first_owner hash es points ring at n (record { within = omega arith; before = before; after = λ k d low l. absurd (omega arith) }) some)

-- ---- the shares so far
pub record AreSharesOf (es : Pairs) (stretches : List Stretch) (shares : List ℕ) (upto : ℕ) : Type 0 where
  pub long : length shares ≡ length es
  pub each : (j : ℕ) → j < length es → get_or shares j 0 ≡ share_of stretches (node_at es j).0
  pub total : sum shares ≡ upto

abbrev its : List ℕ → Stretch → ℕ
its name s = cond (same name s.owner) (s.to - s.from) 0

share_push : (stretches : List Stretch) (s : Stretch) (name : List ℕ)
    → share_of (stretches ++ s ∷ []) name ≡ share_of stretches name + its name s
share_push stretches s name = search (rules, sum_by-cons, sum_by-append)

pub one_stretch_more : (es : Pairs) → T (is_sorted by_bytes es) → (stretches : List Stretch) (shares next : List ℕ) (n from to : ℕ)
    → AreSharesOf es stretches shares from → n < length es → from ≤ to → next ≡ set shares n (get_or shares n 0 + (to - from))
    → AreSharesOf es (stretches ++ record { owner = (node_at es n).0; from = from; to = to } ∷ []) next to
one_stretch_more es sorted stretches shares next n from to so_far below upto_it is =
    let s : Stretch = record { owner = (node_at es n).0; from = from; to = to } in
    let there : n < length shares = omega (arith, so_far.long) in
    record {
      long = ap length is ∙ length-set shares n _ ∙ so_far.long;
      each = λ j l. ⊎_elim
          (λ (here : j ≡ n).
          let mine : its (node_at es j).0 s ≡ to - from = grind (arith, name_tests, here) in
          grind (arith, elements, is, so_far.each j l, mine, share_push stretches s (node_at es j).0))
          (λ (ne : j ≢ n).
          let apart : (node_at es j).0 ≢ (node_at es n).0 = λ e. ne (one_index es sorted j n l below e) in
          let not_mine : its (node_at es j).0 s ≡ 0 = grind (arith, name_tests, apart) in
          grind (arith, elements, is, so_far.each j l, not_mine, share_push stretches s (node_at es j).0))
          (cases_eq j n);
      total = let moved = sum_by-set (λ x. x) shares n (get_or shares n 0 + (to - from)) 0 there in
          omega (arith, ap sum is, moved, so_far.total);
    }

pub first_read : (points : List Point) (p : Point) → Some p ≡ slice_get points 0 → (0 < length points) × (p ≡ get_or points 0 p)
first_read [] p e = cc
first_read (q ∷ points) p e = (omega arith, cc)

-- the shares of the places before `from`, which is behind some points and not behind the next
pub record AreSharesUpto (hash : List ℕ → ℕ) (es : Pairs) (points : List Point) (i : ℕ) (shares : List ℕ) (from : ℕ) : Type 0 where
  pub stretches : List Stretch
  pub whole : AreStretches hash (nodes_of es) 0 from stretches
  pub of : AreSharesOf es stretches shares from
  pub passed : (k : ℕ) (d : Point) → k < i → (get_or points k d).place < from
  pub ahead : (k : ℕ) (d : Point) → i ≤ k → k < length points → from ≤ (get_or points k d).place + 1

pub none_yet : (hash : List ℕ → ℕ) (es : Pairs) (points : List Point) (n : ℕ) (shares : List ℕ) → n ≡ length es → shares ≡ replicate n 0
    → AreSharesUpto hash es points 0 shares 0
none_yet hash es points n shares long is = search (rules, length-replicate, get_or-replicate, none, sum_by-replicate)

module _ (hash : List ℕ → ℕ) (es : Pairs) (points : List Point) (ring : IsRing hash es points) (i : ℕ) (shares next : List ℕ)
    (from was : ℕ) (so_far : AreSharesUpto hash es points i shares from) where
  -- those of one point more
  pub next_point : (d : Point) (to : ℕ) → i < length points → to ≡ (get_or points i d).place + 1
      → was ≡ get_or shares (get_or points i d).node was → next ≡ set shares (get_or points i d).node (was + (to - from))
      → AreSharesUpto hash es points (i + 1) next to
  next_point d to below to_is read is =
      let p = get_or points i d in
      let rises : from ≤ to = omega (arith, to_is, so_far.ahead i d (omega arith) below) in
      let there = is_there hash es p.node p.place (ring.just.real i d below) in
      let its : Stretch = record { owner = (node_at es p.node).0; from = from; to = to } in
      let now : was ≡ get_or shares p.node 0 = read ∙ get_or_default shares p.node was 0 (omega (arith, there, so_far.of.long)) in
      let place = λ (e : Point). ap (λ (q : Point). q.place) (get_or_default points i e d below) in
      record {
        stretches = so_far.stretches ++ its ∷ [];
        whole = stretches_append hash (nodes_of es) 0 from to so_far.stretches (its ∷ []) so_far.whole (
          refl,
          rises,
          (λ at low high. owned hash es points ring i at p below (get_or_default points i d p below)
              (λ k e l. omega (arith, low, so_far.passed k e l)) (omega (arith, to_is, high))),
          refl,
        );
        of = one_stretch_more es ring.named so_far.stretches shares next p.node from to so_far.of there rises
            (is ∙ ap (λ n. set shares p.node (n + (to - from))) now);
        passed = λ k e l. search (rules, same, cases_lt);
        ahead = λ k e low l. omega (arith, to_is, place e, places_rise points ring.ordered i k e (omega arith) l);
      }

  -- those of the places behind all points
  pub last_places : (p : Point) → length points ≤ i → 0 < length points → p ≡ get_or points 0 p → from ≤ 2 ^ 64
      → was ≡ get_or shares p.node was → next ≡ set shares p.node (was + (2 ^ 64 - from))
      → AreShares hash (nodes_of es) next × (sum next ≡ 2 ^ 64)
  last_places p all some first small read is =
      let there = subst (λ (q : Point). q.node < length es) (sym first) (is_there hash es _ _ (ring.just.real 0 p some)) in
      let its : Stretch = record { owner = (node_at es p.node).0; from = from; to = 2 ^ 64 } in
      let stretches = so_far.stretches ++ its ∷ [] in
      let now : was ≡ get_or shares p.node 0 = read ∙ get_or_default shares p.node was 0 (omega (arith, there, so_far.of.long)) in
      let of = one_stretch_more es ring.named so_far.stretches shares next p.node from (2 ^ 64) so_far.of there small
      (is ∙ ap (λ n. set shares p.node (n + (2 ^ 64 - from))) now) in
      let f = λ (node : List ℕ × ℕ). share_of stretches node.0 in (
        record {
          stretches = stretches;
          whole = stretches_append hash (nodes_of es) 0 from (2 ^ 64) so_far.stretches (its ∷ []) so_far.whole (
            refl,
            small,
            (λ at low high. owned_behind hash es points ring at p some first
                (λ k d l. omega (arith, low, so_far.passed k d (omega arith)))),
            refl,
          );
          each = same_lists next (map f es)
              (of.long ∙ sym (length-map es f))
              (λ j d l. get_or_default next j d 0 l ∙ of.each j (omega (arith, of.long))
              ∙ sym (get_or-map f es j ([], 0) d (omega (arith, of.long))))
              ∙ ap (map f) (sym (entries_are es ring.named));
        },
        of.total,
      )
