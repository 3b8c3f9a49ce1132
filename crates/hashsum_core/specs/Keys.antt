-- Key files.
use Rattle.std.specs.Prelude.{ℕ, ◌≡◌, ◌≢◌, ◌%◌, List, Option, Some, None}
use Rattle.cli.specs.Files.{Opens}
use Rattle.cli.specs.Keys.{HasKeys}
use Rattle.hash_keyed.specs.Poly61.{prime61}
use Rattle.hashsum_core.specs.declared.keys.KeyRule.{KeyRule}
use Rattle.hashsum_core.specs.declared.keys.KeyRule.TheVariants.{Any, Poly61}

-- two keys of poly61: neither is 0 modulo the prime, where all texts have one hash, and they differ there, so that they give two hashes
abbrev pub ArePoly61Keys : ℕ × ℕ → Type 0
ArePoly61Keys keys = (keys.0 % prime61 ≢ 0) × (keys.1 % prime61 ≢ 0) × (keys.0 % prime61 ≢ keys.1 % prime61)

-- two keys that a file may have
abbrev pub MayBeKeys : KeyRule → ℕ × ℕ → Type 0
MayBeKeys Any keys = Unit {0}
MayBeKeys Poly61 keys = ArePoly61Keys keys

-- these are the keys in a key file, if there is one
abbrev pub AreKeysFor : KeyRule → Opens → (file : Option (List ℕ)) → (keys : Option (ℕ × ℕ)) → Type 0
AreKeysFor rule opens None keys = keys ≡ None
AreKeysFor rule opens (Some file) keys = (pair : ℕ × ℕ) × (keys ≡ Some pair) × HasKeys (opens file) pair × MayBeKeys rule pair
