-- How hashes fall into buckets, and how many pairs meet. A hash falls into the bucket that its rest by the number of buckets names.
use Rattle.std.specs.Prelude.{ℕ, Bool, ◌==◌, ◌+◌, ◌%◌, List, [], ◌∷◌, map}
use Rattle.std.specs.List.{range_with_len, count_by}

-- how many times an element of a list and a later one meet
unfoldable pub meetings : {A : Type 0} → (A → A → Bool) → List A → ℕ
meetings meet [] = 0
meetings meet (x ∷ xs) = count_by (meet x) xs + meetings meet xs

-- how many of these hashes equal one
abbrev pub times : ℕ → List ℕ → ℕ
times hash hashes = count_by (λ other. other == hash) hashes

-- how many pairs of hashes are equal: how many later ones equal each
abbrev pub collisions : List ℕ → ℕ
collisions hashes = meetings (λ hash other. other == hash) hashes

-- how many of these hashes fall into bucket b of m
abbrev pub in_bucket : (m b : ℕ) → List ℕ → ℕ
in_bucket m b hashes = count_by (λ hash. hash % m == b) hashes

-- how many fall into each of m buckets, in their order
abbrev pub bucket_counts : ℕ → List ℕ → List ℕ
bucket_counts m hashes = map (λ b. in_bucket m b hashes) (range_with_len 0 m)
