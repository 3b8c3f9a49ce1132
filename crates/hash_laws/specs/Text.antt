-- Texts, which are lists of bytes, and lists of pieces of them.
use Rattle.std.specs.Prelude.{ℕ, ◌<◌, List, map, All}
use Rattle.std.specs.List.{flat_map}
use denote.Bor.{Bor}

-- a list of bytes
abbrev pub IsText : List ℕ → Type 0
IsText text = All (λ byte. byte < 256) text

-- the texts of the pieces
abbrev pub texts : List (Bor (List ℕ)) → List (List ℕ)
texts pieces = map (λ piece. piece.now) pieces

-- the pieces joined to one text
abbrev pub joined : List (Bor (List ℕ)) → List ℕ
joined pieces = flat_map (λ piece. piece.now) pieces
