-- What commands do to a table.
use Rattle.std.specs.Prelude.{◌≡◌, ◌<◌, ℕ, Option, None, List, [], ◌∷◌, fold, take, slice_get, IsSomeAnd}
use Rattle.std.specs.FinMap as map
use Rattle.hash_buckets.specs.Table.{Table}
use Rattle.hash_buckets.specs.declared.Command.{Command}
use Rattle.hash_buckets.specs.declared.Command.TheVariants.{Insert, Remove, Get}

-- the table after the command
abbrev pub content_after : Table → Command → Table
content_after table (Insert key value) = map.insert table key.items value
content_after table (Remove key) = map.remove table key.items
content_after table (Get key) = table

-- the value that the command's key had
abbrev pub reply_to : Table → Command → Option ℕ
reply_to table (Insert key value) = map.get table key.items
reply_to table (Remove key) = map.get table key.items
reply_to table (Get key) = map.get table key.items

-- the replies to the commands, in order
abbrev pub replies_to : Table → List Command → List (Option ℕ)
replies_to table [] = []
replies_to table (command ∷ commands) =
    reply_to table command ∷ replies_to (content_after table command) commands

-- the command gives a value to a key that isn't there
abbrev pub NeedsMemory : Table → Command → Type 0
NeedsMemory table (Insert key value) = map.get table key.items ≡ None
NeedsMemory table (Remove key) = ⊥
NeedsMemory table (Get key) = ⊥

-- n commands were done, and then there was no memory: for the replies where n is 0, or for a new key
pub record StopsAt (n : ℕ) (old : Table) (commands : List Command) (new : Table) : Type 0 where
  pub content : new ≡ fold content_after old (take n commands)
  pub wanted : 0 < n → IsSomeAnd (slice_get commands n) (NeedsMemory new)
