-- Many texts that lie behind one another.
use Rattle.std.specs.Prelude.{ℕ, Bool, IsSome, IsTrue, ◌≡◌, ◌↔◌, ◌+◌, ◌<◌, ◌≤◌, List, length, slice_index, slice_range}
use Rattle.std.specs.Bool.{OnTrue, OnFalse}
use Rattle.hash_c.specs.Kinds.{hash_at, kind_at}

-- none of so many steps from place to place falls
abbrev pub NoneFalls : ℕ → List ℕ → Type 0
NoneFalls count offsets = (i : ℕ) → i < count → slice_index offsets i ≤ slice_index offsets (i + 1)

-- there is one place more than texts, none falls, and none passes the data's end
pub record AreOffsets (size count : ℕ) (offsets : List ℕ) : Type 0 where
  pub one_more : length offsets ≡ count + 1
  pub first : slice_index offsets 0 ≤ size
  pub rise : NoneFalls count offsets
  pub within : (i : ℕ) → i < count → slice_index offsets (i + 1) ≤ size

-- text i lies between places i and i + 1
abbrev pub text_at : List ℕ → List ℕ → ℕ → List ℕ
text_at bytes offsets i = slice_range bytes (slice_index offsets i) (slice_index offsets (i + 1))

-- number i is the hash of text i
abbrev pub AreHashes : (List ℕ → ℕ) → List ℕ → List ℕ → List ℕ → Type 0
AreHashes hash bytes offsets hashes =
    (i : ℕ) → i < length hashes → slice_index hashes i ≡ hash (text_at bytes offsets i)

-- the hashes of the texts are written, exactly where these are places of texts; else nothing is
pub record IsColumn (hash : List ℕ → ℕ) (bytes offsets before after : List ℕ) (result : Bool) : Type 0 where
  pub exactly : IsTrue result ↔ AreOffsets (length bytes) (length before) offsets
  pub written : OnTrue result (AreHashes hash bytes offsets after)
  pub refused : OnFalse result (after ≡ before)

-- the same by the hash of that number, exactly where there is one too
pub record IsColumnBy (number : ℕ) (bytes offsets before after : List ℕ) (result : Bool) : Type 0 where
  pub exactly : IsTrue result ↔ (IsSome (kind_at number) × AreOffsets (length bytes) (length before) offsets)
  pub written : OnTrue result (AreHashes (hash_at number) bytes offsets after)
  pub refused : OnFalse result (after ≡ before)
