-- What a reader's bytes do to a hasher.
use Rattle.std.specs.Prelude.{ℕ, ◌≡◌, ◌+◌, ◌-◌, ◌*◌, ◌/◌, List, ◌++◌, Option, Some, map, take, drop, length, fold}
use Rattle.std.specs.List.{range_with_len}
use Rattle.std.specs.Io.KnownBytes.{Consumes}
use Rattle.hash_laws.specs.Text.{IsText}

-- the text in pieces of n bytes each, the last shorter and not empty
abbrev pub cut : ℕ → List ℕ → List (List ℕ)
cut n text = map (λ i. take n (drop (i * n) text)) (range_with_len 0 ((length text + (n - 1)) / n))

-- so many of the bytes that were left were read, and led from one state to another, cut into pieces of n
pub record FeedsRead {S : Type 0} (after : S → List ℕ → S) (n : ℕ) (left left' : Option (List ℕ)) (s s' : S) (bytes : ℕ) : Type 0 where
  pub text : List ℕ
  pub is_text : IsText text
  pub read : Consumes left left' text
  pub count : length text ≡ bytes
  pub fed : s' ≡ fold after s (cut n text)

-- so many of the bytes that were left were read, and led from one hasher to another as one text, behind what the first had read
pub record HashesRead {H S : Type 0} (state : H → S) (after : S → List ℕ → S) (stands_at : H → List ℕ → List ℕ → Type 0)
    (left left' : Option (List ℕ)) (h h' : H) (bytes : ℕ) : Type 0 where
  pub text : List ℕ
  pub is_text : IsText text
  pub read : Consumes left left' text
  pub count : length text ≡ bytes
  pub hashed : state h' ≡ after (state h) text
  pub stands : (from before : List ℕ) → stands_at h from before → stands_at h' from (before ++ text)

-- where the bytes that were left are known, the first so many led there in pieces of n, or as one text
abbrev pub FeedsFirst : {S : Type 0} (after : S → List ℕ → S) (n : ℕ) (left : Option (List ℕ)) (s s' : S) (count : ℕ) → Type 0
FeedsFirst after n left s s' count = (bytes : List ℕ) → left ≡ Some bytes → s' ≡ fold after s (cut n (take count bytes))

abbrev pub HashesFirst : {S : Type 0} (after : S → List ℕ → S) (left : Option (List ℕ)) (s s' : S) (count : ℕ) → Type 0
HashesFirst after left s s' count = (bytes : List ℕ) → left ≡ Some bytes → s' ≡ after s (take count bytes)

-- where they are known, a hasher stands behind the first so many
abbrev pub StandsFirst : {H : Type 0} (stands_at : H → List ℕ → List ℕ → Type 0) (left : Option (List ℕ)) (h h' : H) (count : ℕ) → Type 0
StandsFirst stands_at left h h' count =
    (bytes from before : List ℕ) → left ≡ Some bytes → stands_at h from before → stands_at h' from (before ++ take count bytes)

-- where they are known, all of them led there
abbrev pub FeedsAll : {S : Type 0} (after : S → List ℕ → S) (n : ℕ) (left : Option (List ℕ)) (s s' : S) → Type 0
FeedsAll after n left s s' = (bytes : List ℕ) → left ≡ Some bytes → s' ≡ fold after s (cut n bytes)

abbrev pub HashesAll : {S : Type 0} (after : S → List ℕ → S) (left : Option (List ℕ)) (s s' : S) → Type 0
HashesAll after left s s' = (bytes : List ℕ) → left ≡ Some bytes → s' ≡ after s bytes
