-- What came of hashing all that a reader gives.
use Rattle.std.specs.Prelude.{ℕ, ◌≡◌, ◌<◌, List, Option, Result, Ok, Err, length, fold}
use Rattle.std.specs.Io.KnownBytes.{Consumes, IsAtEnd}
use Rattle.hash_laws.specs.Reading.{cut}
use Rattle.hash_laws.specs.Text.{IsText}
use Rattle.hash_laws.specs.declared.reading.limited.Unhashed.{Unhashed}
use Rattle.hash_laws.specs.declared.reading.limited.Unhashed.TheVariants.{ReadFault, TooLong}

-- how many bytes are too many to be read, and those that are left to be read before and after
pub record Reading : Type 0 where
  pub limit : ℕ
  pub before : Option (List ℕ)
  pub after : Option (List ℕ)

abbrev pub read : {R : Type 0} (limit : ℕ) (remaining : R → Option (List ℕ)) (r r' : R) → Reading
read limit remaining r r' = record { limit = limit; before = remaining r; after = remaining r' }

-- all that was left was read: a text below the limit
pub record ReadsAll (reading : Reading) (text : List ℕ) : Type 0 where
  pub is_text : IsText text
  pub read : Consumes reading.before reading.after text
  pub end : IsAtEnd reading.after
  pub below : length text < reading.limit

-- so many bytes were read
pub record ReadsSome (reading : Reading) (count : ℕ) : Type 0 where
  pub text : List ℕ
  pub read : Consumes reading.before reading.after text
  pub length_is : length text ≡ count

-- what came of reading: what all that was left gives; or how much was read before a fault, or up to the limit
abbrev pub Reads : {A : Type 0} (gives : List ℕ → A → Type 0) → Reading → Result A Unhashed → Type 0
Reads gives reading (Ok it) = (text : List ℕ) × ReadsAll reading text × gives text it
Reads gives reading (Err (ReadFault fault)) = ReadsSome reading fault.bytes × (fault.bytes < reading.limit)
Reads gives reading (Err TooLong) = ReadsSome reading reading.limit

-- a hasher that was fed all that was left, in pieces of so many bytes
abbrev pub Feeds : {H S : Type 0} (piece : ℕ) (after : S → List ℕ → S) (fresh : S) (state : H → S) → Reading → Result H Unhashed → Type 0
Feeds piece after fresh state = Reads (λ text h. state h ≡ fold after fresh (cut piece text))

-- the hash of all that was left
abbrev pub Hashes : (hash : List ℕ → ℕ) → Reading → Result ℕ Unhashed → Type 0
Hashes hash = Reads (λ text number. number ≡ hash text)
