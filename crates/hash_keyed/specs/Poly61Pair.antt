-- What a Poly61Pair stands for.
use Rattle.std.specs.Prelude.{ℕ, ◌≡◌, List, [], ◌∷◌}
use Rattle.hash_keyed.specs.Poly61State.{Position, PolyStandsAt, start_at, after, IsPosition}
use Rattle.hash_keyed.specs.declared.pair.Poly61Pair.{Poly61Pair}

-- each of the two hashers has gone over the text, at its key
abbrev pub StandAt : Poly61Pair → (first second : ℕ) → List ℕ → Type 0
StandAt pair first second text = (pair.first ≡ after (start_at first) text) × (pair.second ≡ after (start_at second) text)

-- before the first byte
abbrev pub pair_at : (first second : ℕ) → Poly61Pair
pair_at first second = record { first = start_at first; second = start_at second }

-- after a piece
abbrev pub after_write : Poly61Pair → List ℕ → Poly61Pair
after_write pair piece = record { first = after pair.first piece; second = after pair.second piece }

-- where both stand
abbrev pub at_both : Poly61Pair → Position × Position
at_both pair = (pair.first, pair.second)

-- both after a text
abbrev pub after_both : Position × Position → List ℕ → Position × Position
after_both at text = (after at.0 text, after at.1 text)

-- both are positions whose numbers are below their bounds
abbrev pub IsPair : Position × Position → Type 0
IsPair at = IsPosition at.0 × IsPosition at.1

-- the start is two keys below the prime, and each position is that after the text, at its key
abbrev pub PairStandsAt : Position × Position → (from text : List ℕ) → Type 0
PairStandsAt at from text = (first second : ℕ) × (from ≡ first ∷ second ∷ [])
    × PolyStandsAt at.0 (first ∷ []) text × PolyStandsAt at.1 (second ∷ []) text
