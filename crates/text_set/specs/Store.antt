-- Texts that lie one behind the other.
use Rattle.std.specs.Prelude.{ℕ, ◌≡◌, ◌≤◌, ◌-◌, List, [], ◌∷◌, take, drop, slice_index_or}

-- the bytes cut at these ends, from a start on
abbrev pub cut : ℕ → List ℕ → (ends : List ℕ) → List (List ℕ)
cut start bytes [] = []
cut start bytes (end ∷ ends) = take (end - start) (drop start bytes) ∷ cut end bytes ends

-- the ends rise from a start to the last one
abbrev pub Rises : ℕ → (ends : List ℕ) → ℕ → Type 0
Rises start [] last = start ≡ last
Rises start (end ∷ ends) last = (start ≤ end) × Rises end ends last

-- where the text at a place begins: the first at the start, any other where the one before it ends
abbrev pub start_of : List ℕ → ℕ → ℕ
start_of ends place = slice_index_or (0 ∷ ends) place 0
