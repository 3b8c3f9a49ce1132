-- What a reader's bytes give a sink of chunks.
use Rattle.std.specs.Prelude.{ℕ, ◌≡◌, ◌<◌, List, ◌++◌, Option, Some, None, length, take}
use Rattle.std.specs.Io.KnownBytes.{Consumes, IsAtEnd}
use Rattle.streams.specs.Records.{ComeFirst}
use Rattle.hash_cuts.specs.Cuts.{Cutting, chunks, first_cut}
use Rattle.hash_cuts.specs.declared.reader.Unfinished.{Unfinished}
use Rattle.hash_cuts.specs.declared.reader.Unfinished.TheVariants.{Unread, Refused, NoMemory}

-- what a sink says of itself: since the start it has taken these chunks, and then refused one, if there is one
abbrev pub Taken : Type 0 → Type 1
Taken S = (start now : S) (chunks : List (List ℕ)) (refused : Option (List ℕ)) → Type 0

-- a sink took these chunks behind the others, and then refused one, if there is one
abbrev pub Takes : {S : Type 0} → Taken S → (old new : S) (chunks : List (List ℕ)) (refused : Option (List ℕ)) → Type 0
Takes {S} taken old new chunks refused =
    (start : S) (before : List (List ℕ)) → taken start old before None → taken start new (before ++ chunks) refused

-- a sink was given the first chunks of a text, up to the rest
pub record GivesFirst {S : Type 0} (taken : Taken S) (cuts : Cutting) (text rest : List ℕ) (refused : Option (List ℕ)) (old new : S) : Type 0 where
  pub given : List (List ℕ)
  pub takes : Takes taken old new given refused
  pub first : ComeFirst (chunks cuts) text given rest

-- no chunk of the bytes ends, but by their end
abbrev pub IsBegun : Cutting → List ℕ → Type 0
IsBegun cuts rest = (first_cut cuts rest ≡ length rest) × (length rest < cuts.most)

-- so many bytes were read, and the sink was given the first chunks of them, up to the rest
pub record CutsRead {S : Type 0} (taken : Taken S) (cuts : Cutting) (left left' : Option (List ℕ)) (old new : S) (bytes : ℕ) (rest : List ℕ)
    (refused : Option (List ℕ)) : Type 0 where
  pub text : List ℕ
  pub read : Consumes left left' text
  pub count : length text ≡ bytes
  pub gives : GivesFirst taken cuts text rest refused old new

-- so many bytes were read, which were all, and the sink took all chunks of them
pub record CutsAll {S : Type 0} (taken : Taken S) (cuts : Cutting) (left left' : Option (List ℕ)) (old new : S) (bytes : ℕ)
    : Type 0 where
  pub text : List ℕ
  pub read : Consumes left left' text
  pub end : IsAtEnd left'
  pub count : length text ≡ bytes
  pub takes : Takes taken old new (chunks cuts text) None

-- a reading that broke after so many bytes, of which the sink was given the first chunks: after a read's error, or where there was no
-- memory, all but the one that was begun; and it refused the first of the rest, or none
abbrev pub BreaksAt : {E : Type 0} → Cutting → Unfinished E → (bytes : ℕ) (rest : List ℕ) (refused : Option (List ℕ)) → Type 0
BreaksAt cuts (Unread fault) bytes rest refused = (fault.bytes ≡ bytes) × IsBegun cuts rest × (refused ≡ None)
BreaksAt cuts (Refused error) bytes rest refused = (0 < length rest) × (refused ≡ Some (take (first_cut cuts rest) rest))
BreaksAt cuts NoMemory bytes rest refused = IsBegun cuts rest × (refused ≡ None)
