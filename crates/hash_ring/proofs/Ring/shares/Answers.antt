use Rattle.hash_ring.proofs.Lemmas.{ℕ, ◌≡◌, ◌≢◌, ◌≤◌, ◌<◌, ◌∙◌, ap, sym, length, arith, ⊎_elim, List, cases_lt, Point, Nodes, IsRing, nodes_of, Pairs, len_of, no_points, nat_tests, common_steps}
use Rattle.std.specs.FinMap as fin
use Rattle.hash_ring.proofs.Ring.shares.Goals as goal

-- where there is a node there is a point
some_point : (hash : List ℕ → ℕ) (es : Pairs) (points read : List Point) (m : Nodes) → IsRing hash es points → nodes_of es ≡ m
    → read ≡ points → m ≢ fin.empty → 0 < length read
some_point hash es points read m ring view is some = ⊎_elim
    (λ (low : 0 < length read). low)
    (λ (high : length read ≤ 0). let same = ap length is in absurd
    (some (sym view ∙ no_points hash es points ring (omega (arith, high, same)))))
    (cases_lt 0 (length read))

pub returns-clause-each : goal.returns-clause-each
returns-clause-each g c = λ some.
    let hash = g.H.Piecewise.hash_of in
    grind (arith, nat_tests, common_steps, some_point hash _ _ _ _ c.self.invariant c.self.view_is c.deref-2.ensures.value some)

pub returns-clause-all : goal.returns-clause-all
returns-clause-all g c = λ some.
    c.in_ok-shares.ensures.all (some_point g.H.Piecewise.hash_of _ _ _ _ c.self.invariant c.self.view_is c.deref-2.ensures.value some)

pub returns-clause-count : goal.returns-clause-count
returns-clause-count g c =
    c.in_ok-shares.ensures.count ∙ ap length c.deref.ensures.value ∙ len_of _ _ c.self.invariant.named c.self.view_is ∙ sym (fin.len-entries _)
