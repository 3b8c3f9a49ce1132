-- The keys of a text, and what a set has once they are read.
use Rattle.std.specs.Prelude.{ℕ, ◌≡◌, Bool, true, false, Option, List, All, IfSome, fold, length, [], ◌∷◌}
use Rattle.std.specs.Int.NonZero.{non_zero_usize_get}
use Rattle.std.specs.Io.KnownBytes.{Consumes}
use Rattle.std.specs.List.{concat}
use Rattle.streams.specs.Records.{ComeFirst}
use Rattle.text_set.specs.Lines.{line_texts}
use Rattle.text_set.specs.Texts.{with_text}
use Rattle.spread_core.specs.declared.keys.Layout.{Layout}
use Rattle.spread_core.specs.declared.keys.Layout.TheVariants.{Lines, Fixed}

-- a text was read, and its keys are there, behind those that were there, each once
pub record TakesKeys (keys keys' : List (List ℕ)) (left left' : Option (List ℕ)) (text : List ℕ) (read : List (List ℕ)) : Type 0 where
  pub consumed : Consumes left left' text
  pub taken : keys' ≡ fold with_text keys read

-- all that was left was read, and its keys are there
pub record TakesAll (keys keys' : List (List ℕ)) (left left' : Option (List ℕ)) (text : List ℕ) (read : List (List ℕ)) : Type 0 where
  pub takes : TakesKeys keys keys' left left' text read
  pub all : IfSome left (λ bytes. bytes ≡ text)

-- the keys are the lines of all that was left
abbrev pub ReadsLines : (eol : ℕ) (keys keys' : List (List ℕ)) (left left' : Option (List ℕ)) → Type 0
ReadsLines eol keys keys' left left' = (text : List ℕ) × TakesAll keys keys' left left' text (line_texts eol text)

-- keys of so many bytes were read, and are there
abbrev pub TakesFixed : (width : ℕ) (keys keys' : List (List ℕ)) (left left' : Option (List ℕ)) → Type 0
TakesFixed width keys keys' left left' = (read : List (List ℕ)) × TakesKeys keys keys' left left' (concat read) read
    × All (λ key. length key ≡ width) read

-- the keys, joined, are all that was left, and each has so many bytes
abbrev pub ReadsFixed : (width : ℕ) (keys keys' : List (List ℕ)) (left left' : Option (List ℕ)) → Type 0
ReadsFixed width keys keys' left left' = (read : List (List ℕ)) × TakesAll keys keys' left left' (concat read) read
    × All (λ key. length key ≡ width) read

-- all keys that were left were read
abbrev pub ReadsKeys : Layout → (keys keys' : List (List ℕ)) (left left' : Option (List ℕ)) → Type 0
ReadsKeys (Lines eol) = ReadsLines eol
ReadsKeys (Fixed width) = ReadsFixed (non_zero_usize_get width)

-- lines with their ends were read, and their keys are there
abbrev pub TakesLines : (eol : ℕ) (keys keys' : List (List ℕ)) (left left' : Option (List ℕ)) → Type 0
TakesLines eol keys keys' left left' = (text : List ℕ) × (read : List (List ℕ)) × TakesKeys keys keys' left left' text read
    × ComeFirst (line_texts eol) text read []

-- a line was read, and its key is there: one with its end, or all that was left
abbrev pub ReadsLine : (eol : ℕ) (keys keys' : List (List ℕ)) (left left' : Option (List ℕ)) → (has_end : Bool) → Type 0
ReadsLine eol keys keys' left left' true = (text key : List ℕ) × TakesKeys keys keys' left left' text (key ∷ [])
    × ComeFirst (line_texts eol) text (key ∷ []) []
ReadsLine eol keys keys' left left' false = ReadsLines eol keys keys' left left'

-- a key of so many bytes was read; or none was left
abbrev pub ReadsKey : (width : ℕ) (key : List ℕ) (left left' : Option (List ℕ)) → (is_one : Bool) → Type 0
ReadsKey width key left left' true = Consumes left left' key × (length key ≡ width)
ReadsKey width key left left' false = Consumes left left' [] × IfSome left (λ bytes. bytes ≡ [])

-- a key of so many bytes was read, and is there; or none was left
abbrev pub ReadsOne : (width : ℕ) (keys keys' : List (List ℕ)) (left left' : Option (List ℕ)) → (is_one : Bool) → Type 0
ReadsOne width keys keys' left left' true = (key : List ℕ) × TakesKeys keys keys' left left' key (key ∷ []) × (length key ≡ width)
ReadsOne width keys keys' left left' false = TakesAll keys keys' left left' [] []
