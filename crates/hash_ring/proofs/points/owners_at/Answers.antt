use Rattle.hash_ring.proofs.Lemmas.{ℕ, ◌≡◌, ◌≤◌, ◌<◌, ◌+◌, ◌∙◌, ◌++◌, ◌∷◌, [], List, length, get_or, take, drop, arith, sym, ap, subst, nat_eq, list_any, drop-drop, drop-set-lt, length-map, map-append, take_more_set, All-push, IsRing, name_at, names_at, node_at, nodes_of, length-take-le, AreNamesRound, among_exactly, as_many, name_among, node_among, none, round_all, round_full, round_new, round_of, round_old, spot}
use Rattle.std.specs.List.{All}
use Rattle.hash_ring.proofs.PointLemmas.{Pairs, is_there}
use Rattle.hash_ring.proofs.points.owners_at.Goals as goal
use Rattle.hash_ring.proofs.points.owners_at.Goals.{then-not-contains, else-not-contains}

one_less : (n : ℕ) (xs ys : List ℕ) → drop n xs ≡ drop n ys → drop (n + 1) xs ≡ drop (n + 1) ys
one_less n xs ys same = sym (drop-drop 1 n xs) ∙ ap (drop 1) same ∙ drop-drop 1 n ys

-- as many names as nodes
names_long : (named : Pairs) (nodes : List ℕ) (count : ℕ) → count ≤ length nodes → length (names_at named (take count nodes)) ≡ count
names_long named nodes count few =
    length-map (take count nodes) (λ (i : ℕ). (node_at named i).0) ∙ length-take-le count nodes few

pub returns-then-count-nodes-clause-count : goal.returns-then-count-nodes-clause-count
returns-then-count-nodes-clause-count c = λ hash named ring.
    let nodes = c.loop-steps.nodes in
    let count = c.loop-steps.count in
    let long = names_long named nodes count c.loop-steps.invariant.few in
    as_many named ring.named nodes count _ c.loop-steps.invariant.few
    (round_full (round_of hash named c.args.points.now ring c.args.place _ (c.first_from-first.ensures.start ring.ordered)) _ _
    (c.loop-steps.invariant.round hash named ring).own (omega (arith, long, c.if-count-nodes.true, c.loop-steps.auto.nodes)))

pub returns-clause-count : goal.returns-clause-count
returns-clause-count c = λ hash named ring.
    let nodes = c.loop-steps.nodes in
    let count = c.loop-steps.count in
    let long = names_long named nodes count c.loop-steps.invariant.few in
    as_many named ring.named nodes count _ c.loop-steps.invariant.few
    (round_all (round_of hash named c.args.points.now ring c.args.place _ (c.first_from-first.ensures.start ring.ordered)) _ _ _
    (c.loop-steps.invariant.round hash named ring) c.loop-steps-test.false
    (omega (arith, long, c.loop-steps.invariant.few, c.loop-steps.auto.nodes)))

pub loop-steps-preserved : goal.loop-steps-preserved
loop-steps-preserved c =
    let points = c.args.points.now in
    let steps = c.loop-steps.steps in
    let old = c.loop-steps.nodes in
    let count = c.loop-steps.count in
    let k = c.index_round.result in
    let node = (get_or points k none).node in
    let so_far = c.loop-steps.invariant in
    let first = c.first_from-first.result in
    let start = c.first_from-first.ensures.start in
    let few : count < length old = omega (arith, so_far.few, c.if-count-nodes.false, c.loop-steps.auto.nodes) in
    let told : c.contains.result ≡ list_any (λ y. nat_eq y node) (take count old) = c.contains.ensures.value in
    let spot_is : (named : Pairs) → (spot named points first steps).1 ≡ (node_at named node).0 =
    λ named. ap (name_at named points) (sym c.index_round.ensures.value) in
    let below = λ (hash : List ℕ → ℕ) (named : Pairs) (ring : IsRing hash named points).
    is_there hash named node _ (ring.just.real k none c.index_round.ensures.in_range) in
    elim c.if-not-contains.branch [
      | then-not-contains w ↦
          let now = c.if-not-contains.nodes in
          let many = c.if-not-contains.count in
          let taken : take many now ≡ take count old ++ node ∷ [] =
          (λ i. take (w.count-is i) (w.nodes-is i)) ∙ take_more_set old count node few in
          record {
            few = omega arith;
            round = λ hash named ring.
                let real = so_far.real hash named ring in
                let names = names_at named (take count old) in
                let more : names_at named (take many now) ≡ names ++ (node_at named node).0 ∷ [] =
                ap (names_at named) taken ∙ map-append (λ (i : ℕ). (node_at named i).0) (take count old) (node ∷ []) in
                subst (λ names. AreNamesRound hash (nodes_of named) c.args.place (spot named points first) names (steps + 1)) (sym more)
                (round_new (round_of hash named points ring c.args.place first (start ring.ordered)) (node_at named node).0 steps
                c.loop-steps-test.true (spot_is named) names (so_far.round hash named ring)
                (λ old_name.
                let yes = (among_exactly (take count old) node c.contains.result told).1
                (node_among named ring.named (take count old) real node (below hash named ring) old_name) in
                let no = w.if-not-contains.true in cc));
            real = λ hash named ring. subst (All (λ i. i < length named)) (sym taken)
                (All-push (λ i. i < length named) (take count old) node (so_far.real hash named ring) (below hash named ring));
            rest = (λ i. drop (w.count-is i) (w.nodes-is i)) ∙ drop-set-lt (count + 1) old count node (omega arith)
                ∙ one_less count old _ so_far.rest ∙ ap (λ (n : ℕ). drop n c.args.nodes.now) (sym w.count-is);
          }
      | else-not-contains w ↦
          let same : take c.if-not-contains.count c.if-not-contains.nodes ≡ take count old = λ i. take (w.count-is i) (w.nodes-is i) in
          let there = (among_exactly (take count old) node c.contains.result told).0 w.if-not-contains.false in
          record {
            few = omega (arith, w.count-is, ap length w.nodes-is, so_far.few);
            round = λ hash named ring.
                subst (λ nodes. AreNamesRound hash (nodes_of named) c.args.place (spot named points first) (names_at named nodes) (steps + 1))
                (sym same)
                (round_old (round_of hash named points ring c.args.place first (start ring.ordered)) (node_at named node).0 steps
                c.loop-steps-test.true (spot_is named) (names_at named (take count old)) (so_far.round hash named ring)
                (name_among named ring.named (take count old) (so_far.real hash named ring) node (below hash named ring) there));
            real = λ hash named ring. subst (All (λ i. i < length named)) (sym same) (so_far.real hash named ring);
            rest = (λ i. drop (w.count-is i) (w.nodes-is i)) ∙ so_far.rest ∙ ap (λ (n : ℕ). drop n c.args.nodes.now) (sym w.count-is);
          }
    ]
