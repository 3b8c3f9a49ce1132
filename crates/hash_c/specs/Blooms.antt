-- What a call does to a Bloom filter in words that a caller in C keeps.
use Rattle.std.specs.Prelude.{ℕ, ◌≡◌, ◌↔◌, List, Bool, IsTrue}
use Rattle.hash_bloom.specs.Filter.{Filter, Adds, AllPassIn, HasRoom, IsProbe, Passes}

-- there is room for the filter, and the key passes
abbrev pub IsFound : (f g : List ℕ → ℕ) → Filter → List ℕ → Type 0
IsFound f g filter key = HasRoom filter × Passes f g filter key

-- the key is inserted, and the answer says that it is new: it did not pass before; where there is no room, nothing changes
pub record IsInserted (f g : List ℕ → ℕ) (old new : Filter) (key : List ℕ) (answer : Bool) : Type 0 where
  pub inserted : HasRoom old → Adds old new (IsProbe f g old key)
  pub passes : HasRoom old → Passes f g new key
  pub kept : AllPassIn f g old new
  pub is_new : IsTrue answer ↔ (HasRoom old × (Passes f g old key → ⊥))
  pub refused : (HasRoom old → ⊥) → new ≡ old
