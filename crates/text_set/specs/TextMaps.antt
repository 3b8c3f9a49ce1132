-- Finite maps from texts to numbers, and what changes them.
use Rattle.std.specs.Prelude.{ℕ, ◌≡◌, ◌≢◌, List, fold}
use Rattle.std.specs.List.{AllPairs}
use Rattle.std.specs.Ordering.{nat_cmp}
use Rattle.std.specs.Cmp.Lexicographic.{slice_cmp}
use Rattle.std.specs.FinMap.{FinMap, get, insert}

-- finite maps from texts to numbers
abbrev pub TextMap : Type 0
TextMap = FinMap (slice_cmp nat_cmp) ℕ

-- every key but one has the value that it had
abbrev pub OthersStay : TextMap → TextMap → List ℕ → Type 0
OthersStay old new key = (q : List ℕ) → q ≢ key → get new q ≡ get old q

-- two inserts leave the same map in either order
abbrev pub InsertsCommute : TextMap → List ℕ → ℕ → List ℕ → ℕ → Type 0
InsertsCommute m k v q w = insert (insert m k v) q w ≡ insert (insert m q w) k v

-- the map with all these keys and values, put in one after the other
abbrev pub with_all : TextMap → List (List ℕ × ℕ) → TextMap
with_all m pairs = fold (λ m pair. insert m pair.0 pair.1) m pairs

-- no two of these keys are the same
abbrev pub KeysDiffer : List (List ℕ × ℕ) → Type 0
KeysDiffer pairs = AllPairs (λ a b. a.0 ≢ b.0) pairs
