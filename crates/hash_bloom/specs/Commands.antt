-- What commands do to a filter.
use Rattle.std.specs.Prelude.{ℕ, List, [], ◌∷◌, ◌⊎◌, ◌≡◌}
use Rattle.hash_bloom.specs.Filter.{Filter, IsCovered, IsProbe, IsSet, Fits}
use Rattle.hash_bloom.specs.declared.commands.Command.{Command}
use Rattle.hash_bloom.specs.declared.commands.Command.TheVariants.{Insert, Union, Store}

-- the filter that a command unites has as many bits and probes
abbrev pub CanRun : {F G : Type 0} → Filter → Command F G → Type 0
CanRun filter (Insert key) = Unit {0}
CanRun filter (Union other) = Fits filter other
CanRun filter Store = Unit {0}

-- the bits that a command sets, at a filter of so many bits and probes
abbrev pub SetsBit : {F G : Type 0} (f g : List ℕ → ℕ) (filter : Filter) → Command F G → ℕ → Type 0
SetsBit f g filter (Insert key) j = IsProbe f g filter key.items j
SetsBit f g filter (Union other) j = IsSet other j
SetsBit f g filter Store j = ⊥

-- some of the commands set the bit
abbrev pub AnySetsBit : {F G : Type 0} (f g : List ℕ → ℕ) (filter : Filter) → List (Command F G) → ℕ → Type 0
AnySetsBit f g filter [] j = ⊥
AnySetsBit f g filter (command ∷ commands) j = SetsBit f g filter command j ⊎ AnySetsBit f g filter commands j

-- each of the key's probes is set, or set by some command
abbrev pub IsKnownAfter : {F G : Type 0} (f g : List ℕ → ℕ) (filter : Filter) → List (Command F G) → List ℕ → Type 0
IsKnownAfter f g filter commands key = IsCovered f g filter key (AnySetsBit f g filter commands)

-- some of the commands inserts the key
abbrev pub Inserts : {F G : Type 0} → List (Command F G) → List ℕ → Type 0
Inserts [] key = ⊥
Inserts (Insert inserted ∷ commands) key = (inserted.items ≡ key) ⊎ Inserts commands key
Inserts (Union other ∷ commands) key = Inserts commands key
Inserts (Store ∷ commands) key = Inserts commands key
