-- Lists of pieces: the state after one, where its cuts don't show, and where one byte tells two of them apart.
use Rattle.std.specs.Prelude.{ℕ, ◌≡◌, ◌-◌, ◌%◌, List, length, take, map, fold, All}
use Rattle.std.specs.List.{flat_map}
use denote.Bor.{Bor}
use Rattle.hash_laws.specs.Text.{texts, joined}
use Rattle.hash_laws.specs.DifferWithin.{DifferAtOnePlace}
use Rattle.hash_fx.specs.Fx.{fx32, fx64, words32, words64}

-- the state after pieces, from a start: the words of a piece come after those of the pieces before it
abbrev pub fx32_pieces : ℕ → List (List ℕ) → ℕ
fx32_pieces s pieces = fold (λ t piece. fx32 t (words32 piece)) s pieces

abbrev pub fx64_pieces : ℕ → List (List ℕ) → ℕ
fx64_pieces s pieces = fold (λ t piece. fx64 t (words64 piece)) s pieces

-- n divides the length of each piece but the last
abbrev pub AreWhole : ℕ → List (Bor (List ℕ)) → Type 0
AreWhole n pieces = All (λ text. length text % n ≡ 0) (take (length pieces - 1) (texts pieces))

-- there are as many pieces, of the same lengths one by one, and exactly one byte of all differs
pub record DifferByOneByte (x y : List (Bor (List ℕ))) : Type 0 where
  pub same_cuts : map length (texts x) ≡ map length (texts y)
  pub one_byte : DifferAtOnePlace (joined x) (joined y)

-- the same, and exactly one word of all differs
pub record DifferByOneWord (words : List ℕ → List ℕ) (x y : List (Bor (List ℕ))) : Type 0 where
  pub same_cuts : map length (texts x) ≡ map length (texts y)
  pub one_word : DifferAtOnePlace (flat_map words (texts x)) (flat_map words (texts y))
