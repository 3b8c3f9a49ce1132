-- Nodes on a ring of 2^64 places, and which of them owns a key.
use Rattle.std.specs.Prelude.{ℕ, ◌≡◌, ◌≢◌, ◌≤◌, ◌<◌, ◌-◌, ◌^◌, nat_lt, if◌then◌else◌, List, [], ◌∷◌, ◌++◌, length, map, take, Some, None, Bool, not, true, false}
use Rattle.std.specs.List.{All, filter, sum_by}
use Rattle.std.specs.Ordering.{nat_cmp, eq_by_cmp, is_gt}
use Rattle.std.specs.Cmp.Lexicographic.{slice_cmp}
use Rattle.std.specs.Hash.{le_bytes}
use Rattle.std.specs.Global.{Vec}
use Rattle.hash_ring.specs.declared.Refused.{Refused}
use Rattle.hash_ring.specs.declared.Refused.TheVariants.{IsThere, NoRoom}
use Rattle.std.specs.FinMap.{entries, get, remove}
use Rattle.text_set.specs.TextMaps.{TextMap}

-- the nodes: names with their weights
abbrev pub Nodes : Type 0
Nodes = TextMap

-- the place of a node's point: the hash of the name, followed by the point's number in 8 bytes
abbrev pub point : (List ℕ → ℕ) → List ℕ → ℕ → ℕ
point hash name number = hash (name ++ le_bytes 8 number)

-- a point of a node with this name and weight stands at the place
pub record IsPointOf (hash : List ℕ → ℕ) (node : List ℕ × ℕ) (place : ℕ) : Type 0 where
  pub number : ℕ
  pub below : number < node.1
  pub is : place ≡ point hash node.0 number

-- a point of the node with this name stands at the place
pub record HasPoint (hash : List ℕ → ℕ) (nodes : Nodes) (name : List ℕ) (place : ℕ) : Type 0 where
  pub weight : ℕ
  pub there : get nodes name ≡ Some weight
  pub point : IsPointOf hash (name, weight) place

-- the turn in which a place is reached on the way round from `at`: places before `at` come in the
-- next one
abbrev pub turn : ℕ → ℕ → ℕ
turn at place = if nat_lt place at then 1 else 0

-- on the way round from `at` the one name's place is reached no later than the other's, and of two
-- names at one place the lesser is first
pub record IsFirst (at : ℕ) (name : List ℕ) (place : ℕ) (other : List ℕ) (next : ℕ) : Type 0 where
  pub sooner : turn at place ≤ turn at next
  pub nearer : turn at place ≡ turn at next → place ≤ next
  pub lesser : place ≡ next → is_gt (slice_cmp nat_cmp name other) ≡ false

-- the node of the first point at or after `at`, round the ring
pub record IsOwner (hash : List ℕ → ℕ) (nodes : Nodes) (at : ℕ) (name : List ℕ) : Type 0 where
  pub place : ℕ
  pub has : HasPoint hash nodes name place
  pub first : (other : List ℕ) (next : ℕ) → HasPoint hash nodes other next
      → IsFirst at name place other next

-- the first owns the key, the second where the first is gone, and so on
abbrev pub AreOwners : (List ℕ → ℕ) → Nodes → ℕ → List (List ℕ) → Type 0
AreOwners hash nodes at [] = Unit {0}
AreOwners hash nodes at (name ∷ names) =
    IsOwner hash nodes at name × AreOwners hash (remove nodes name) at names

-- the first owner of the key whom a test passes: it refuses those before
pub record IsFirstToPass (hash : List ℕ → ℕ) (nodes : Nodes) (at : ℕ) (answers : List ℕ → Bool → Type 0) (name : List ℕ) : Type 0 where
  pub before : List (List ℕ)
  pub owners : AreOwners hash nodes at (before ++ name ∷ [])
  pub refused : All (λ other. answers other false) before
  pub passes : answers name true

-- places of the ring, from one on and before another
pub record Stretch : Type 0 where
  pub owner : List ℕ
  pub from : ℕ
  pub to : ℕ

-- stretches one behind the other from a place to another, each with the node that owns its places
abbrev pub AreStretches : (List ℕ → ℕ) → Nodes → ℕ → ℕ → List Stretch → Type 0
AreStretches hash nodes from to [] = from ≡ to
AreStretches hash nodes from to (s ∷ rest) =
    (s.from ≡ from) × (from ≤ s.to) × ((at : ℕ) → from ≤ at → at < s.to → IsOwner hash nodes at s.owner)
    × AreStretches hash nodes s.to to rest

-- how many places of the stretches the node owns
abbrev pub share_of : List Stretch → List ℕ → ℕ
share_of stretches name =
    sum_by (λ s. if eq_by_cmp (slice_cmp nat_cmp) name s.owner then s.to - s.from else 0) stretches

-- how many of the ring's 2 ^ 64 places each node owns, in the order of their names
pub record AreShares (hash : List ℕ → ℕ) (nodes : Nodes) (shares : List ℕ) : Type 0 where
  pub stretches : List Stretch
  pub whole : AreStretches hash nodes 0 (2 ^ 64) stretches
  pub each : shares ≡ map (λ node. share_of stretches node.0) (entries nodes)

-- a key has another owner only where this one owned it before
abbrev pub MovesOnlyFrom : (List ℕ → ℕ) → Nodes → Nodes → List ℕ → Type 0
MovesOnlyFrom hash old new gone =
    (at : ℕ) (a b : List ℕ) → IsOwner hash old at a → IsOwner hash new at b → a ≢ gone → b ≡ a

-- a key has another owner only where this one owns it after
abbrev pub MovesOnlyTo : (List ℕ → ℕ) → Nodes → Nodes → List ℕ → Type 0
MovesOnlyTo hash old new come =
    (at : ℕ) (a b : List ℕ) → IsOwner hash old at a → IsOwner hash new at b → b ≢ come → b ≡ a

-- each node but one owns still what it owned
abbrev pub OthersKeep : (List ℕ → ℕ) → Nodes → Nodes → List ℕ → Type 0
OthersKeep hash old new gone =
    (at : ℕ) (a : List ℕ) → IsOwner hash old at a → a ≢ gone → IsOwner hash new at a

-- the node owns no key
abbrev pub OwnsNothing : (List ℕ → ℕ) → Nodes → List ℕ → Type 0
OwnsNothing hash nodes gone = (at : ℕ) (a : List ℕ) → IsOwner hash nodes at a → a ≢ gone

-- the names but one, in their order
abbrev pub without : List ℕ → List (List ℕ) → List (List ℕ)
without gone names = filter (λ name. not (eq_by_cmp (slice_cmp nat_cmp) name gone)) names

-- where a node has gone, the other owners of a key are its first owners, in their order
abbrev pub KeepOrder : (List ℕ → ℕ) → Nodes → List ℕ → Type 0
KeepOrder hash nodes gone =
    (at : ℕ) (names : List (List ℕ)) → AreOwners hash nodes at names
    → AreOwners hash (remove nodes gone) at (without gone names)

-- two lists of owners of a key are alike as far as the shorter goes
abbrev pub BeginAlike : (List ℕ → ℕ) → Nodes → ℕ → List (List ℕ) → List (List ℕ) → Type 0
BeginAlike hash nodes at xs ys =
    AreOwners hash nodes at xs → AreOwners hash nodes at ys → length xs ≤ length ys
    → xs ≡ take (length xs) ys

-- a refusal hands the name back, and tells a name that is there from want of memory
abbrev pub HandsBack : Nodes → Vec ℕ → Refused (Vec ℕ) → Type 0
HandsBack nodes name (IsThere back) = (back ≡ name) × (get nodes name.items ≢ None)
HandsBack nodes name (NoRoom back) = (back ≡ name) × (get nodes name.items ≡ None)
