use Rattle.hash_ring.proofs.Lemmas.{ℕ, ◌≡◌, ◌≤◌, ◌<◌, List, length, take, drop, IsRing, names_at, nodes_of, All, AreNamesRound, spot}
use Rattle.hash_ring.proofs.points.owners_at.Given as goal

abbrev pub invariant-loop-steps : goal.invariant-loop-steps
invariant-loop-steps l = record {
  few : l.count ≤ length l.nodes;
  round : (hash : List ℕ → ℕ) (named : List (List ℕ × ℕ)) → IsRing hash named l.points
      → AreNamesRound hash (nodes_of named) l.place (spot named l.points l.first) (names_at named (take l.count l.nodes)) l.steps;
  real : (hash : List ℕ → ℕ) (named : List (List ℕ × ℕ)) → IsRing hash named l.points
      → All (λ i. i < length named) (take l.count l.nodes);
  rest : drop l.count l.nodes ≡ drop l.count l.initial.nodes;
}
