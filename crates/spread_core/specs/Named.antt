-- The hashes of keys by a hash of the table.
use Rattle.std.specs.Prelude.{ℕ, ◌≡◌, List, Result, OnOk, map}
use Rattle.std.specs.declared.alloc.AllocError.{AllocError}
use Rattle.spread_core.specs.declared.named.Hashed.{Hashed}

-- what came of hashing the keys
abbrev pub IsHashed : (hash : List ℕ → ℕ) (before after : Hashed) → Result (Unit {0}) AllocError → Type 0
IsHashed hash before after result = (after.keys ≡ before.keys) × OnOk result (after.hashes.items ≡ map hash before.keys.texts)
