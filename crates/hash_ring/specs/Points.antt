-- How nodes and their points lie in memory.
use Rattle.std.specs.Prelude.{ℕ, ◌+◌, ◌≡◌, ◌≤◌, ◌<◌, ◌^◌, List, take, [], ◌++◌, map, length, slice_index_or, T, nat_lt, not, ◌==◌, ◌-◌, if◌then◌else◌}
use Rattle.std.specs.List.{All, AllPairs, Contains, filter, range_with_len}
use Rattle.std.specs.Ordering.{nat_cmp}
use Rattle.std.specs.declared.cmp.Ordering.TheVariants.{Less, Greater}
use Rattle.std.specs.Cmp.Lexicographic.{slice_cmp}
use Rattle.std.specs.FinMap.{from_sorted}
use Rattle.std.specs.FinMap.Entries.{is_sorted}
use Rattle.std.specs.Global.{Vec}
use Rattle.std.specs.List.Sorted.{IsPermutation}
use Rattle.text_set.specs.TextMaps.{KeysDiffer}
use Rattle.hash_ring.specs.declared.Node.{Node}
use Rattle.hash_ring.specs.declared.points.Point.{Point}
use Rattle.hash_ring.specs.declared.Refused.{Refused}
use Rattle.hash_ring.specs.declared.Refused.TheVariants.{IsThere, NoRoom}
use Rattle.hash_ring.specs.Ring.{Nodes, IsPointOf, point}

-- a node's name with its weight
abbrev pub pair_of : Node → List ℕ × ℕ
pair_of node = (node.name.items, node.weight)

-- the nodes' names with their weights
abbrev pub pairs : List Node → List (List ℕ × ℕ)
pairs nodes = map pair_of nodes

-- the nodes of a list in the order of its names
abbrev pub nodes_of : List (List ℕ × ℕ) → Nodes
nodes_of list = from_sorted list

-- the nodes as a map
abbrev pub ring_of : List Node → Nodes
ring_of nodes = nodes_of (pairs nodes)

-- the points of a node, by their numbers
abbrev pub points_of : (List ℕ → ℕ) → List ℕ × ℕ → ℕ → List Point
points_of hash node i =
    map (λ number. record { place = point hash node.0 number; node = i }) (range_with_len 0 node.1)

-- the points of a node are put behind the others
abbrev pub AddsPoints : (List ℕ → ℕ) → Node → ℕ → List Point → List Point → Type 0
AddsPoints hash node i old new = new ≡ old ++ points_of hash (pair_of node) i

-- the node at an index: one of no weight past the end
abbrev pub node_at : List (List ℕ × ℕ) → ℕ → List ℕ × ℕ
node_at nodes i = slice_index_or nodes i ([], 0)

-- points in the order of their places, and at one place in that of their nodes
pub record IsBefore (p q : Point) : Type 0 where
  pub place : p.place ≤ q.place
  pub node : p.place ≡ q.place → p.node ≤ q.node

-- the name of the node whose point stands at an index
abbrev pub name_at : List (List ℕ × ℕ) → List Point → ℕ → List ℕ
name_at nodes points i = (node_at nodes (slice_index_or points i (record { place = 0; node = 0 })).node).0

-- the names of the nodes at some indices
abbrev pub names_at : List (List ℕ × ℕ) → List ℕ → List (List ℕ)
names_at nodes indices = map (λ i. (node_at nodes i).0) indices

-- the point is one of its node
abbrev pub IsPointOfItsNode : (List ℕ → ℕ) → List (List ℕ × ℕ) → Point → Type 0
IsPointOfItsNode hash nodes p = IsPointOf hash (node_at nodes p.node) p.place

-- just the points of the nodes
pub record ArePoints (hash : List ℕ → ℕ) (nodes : List (List ℕ × ℕ)) (points : List Point) : Type 0 where
  pub real : All (IsPointOfItsNode hash nodes) points
  pub all : (i place : ℕ) → IsPointOf hash (node_at nodes i) place
      → Contains points (record { place = place; node = i })

-- each name is below those after it, each node has a point, and the points stand in order
pub record IsRing (hash : List ℕ → ℕ) (nodes : List (List ℕ × ℕ)) (points : List Point) : Type 0 where
  pub named : T (is_sorted (slice_cmp nat_cmp) nodes)
  pub weighed : All (λ node. 1 ≤ node.1) nodes
  pub just : ArePoints hash nodes points
  pub ordered : AllPairs IsBefore points

-- the node at this index has the name
pub record IsNamedAt (nodes : List (List ℕ × ℕ)) (name : List ℕ) (i : ℕ) : Type 0 where
  pub below : i < length nodes
  pub is : (node_at nodes i).0 ≡ name

-- the names below this index are less, and the others are greater
pub record IsGapAt (nodes : List (List ℕ × ℕ)) (name : List ℕ) (i : ℕ) : Type 0 where
  pub within : i ≤ length nodes
  pub less : (k : ℕ) → k < i → slice_cmp nat_cmp (node_at nodes k).0 name ≡ Less
  pub greater : (k : ℕ) → i ≤ k → k < length nodes
      → slice_cmp nat_cmp (node_at nodes k).0 name ≡ Greater

-- the node of an index, where the node at another has gone
abbrev pub closed_up : ℕ → Point → Point
closed_up gone p = record { place = p.place; node = if nat_lt gone p.node then p.node - 1 else p.node }

-- the node of an index, where one has come at another
abbrev pub opened_up : ℕ → Point → Point
opened_up come p = record { place = p.place; node = if nat_lt p.node come then p.node else p.node + 1 }

-- the points of the other nodes
abbrev pub left_without : ℕ → List Point → List Point
left_without gone points = map (closed_up gone) (filter (λ p. not (p.node == gone)) points)

-- at the index stands the first point at or after the place, or the points end
pub record IsStart (points : List Point) (at i : ℕ) : Type 0 where
  pub within : i ≤ length points
  pub before : (k : ℕ) (d : Point) → k < i → (slice_index_or points k d).place < at
  pub after : (k : ℕ) (d : Point) → i ≤ k → k < length points
      → at ≤ (slice_index_or points k d).place

-- the index some steps after the first one, round a list of n
abbrev pub index_round : ℕ → ℕ → ℕ → ℕ
index_round n first steps = if nat_lt steps (n - first) then first + steps else steps - (n - first)

-- the points of a new node can be merged with the others, the first ones of an array with room for both
pub record MayMerge (points new : List Point) : Type 0 where
  pub room : length new ≤ length points
  pub others : AllPairs IsBefore (take (length points - length new) points)
  pub added : AllPairs IsBefore new
  pub below : All (λ p. p.node + 1 < 2 ^ 64) (take (length points - length new) points)

-- a refusal hands all nodes back, in whatever order, and tells that two have one name from want of memory
abbrev pub HandsAllBack : List Node → Refused (Vec Node) → Type 0
HandsAllBack nodes (IsThere back) = IsPermutation nodes back.items × (KeysDiffer (pairs back.items) → ⊥)
HandsAllBack nodes (NoRoom back) = IsPermutation nodes back.items × KeysDiffer (pairs back.items)
