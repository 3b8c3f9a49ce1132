-- The words in front of others.
use Rattle.std.specs.Prelude.{ℕ, ◌≡◌, ◌≢◌, ◌<◌, ◌++◌, List, [], length, drop}

-- the front of a text that ends where the mark stands first, or the whole text, where it stands nowhere
abbrev pub IsInFront : (mark text front : List ℕ) → Type 0
IsInFront mark text front = (rest : List ℕ) × (text ≡ front ++ rest) × (rest ≢ [] → (more : List ℕ) × (rest ≡ mark ++ more))
    × ((at : ℕ) (more : List ℕ) → at < length front → drop at text ≢ mark ++ more)
