-- The mixing rounds of Bob Jenkins' hash functions, each as a list of steps made from its table.
use Rattle.std.specs.Prelude.{ℕ, ◌+◌, ◌%◌, List, [], ◌∷◌, ◌++◌, map}
use Rattle.std.specs.List.{flat_map, enumerate_from, range_with_len}
use Rattle.hash_rounds.specs.Steps.{Step, Add, Sub, Xor, Rotate, SubRotated, XorRotated, AddData}

-- ---- lookup3 (lookup3.c), on the words a, b and c of 32 bits

abbrev a : ℕ
a = 0

abbrev b : ℕ
b = 1

abbrev c : ℕ
c = 2

-- x -= y; x ^= rotl(y, k); y += z
abbrev pub lookup3_mix_group : ℕ × ℕ × ℕ × ℕ → List Step
lookup3_mix_group (x, y, z, k) = Sub x y ∷ XorRotated x y k ∷ Add y z ∷ []

abbrev pub lookup3_mix_table : List (ℕ × ℕ × ℕ × ℕ)
lookup3_mix_table = (a, c, b, 4) ∷ (b, a, c, 6) ∷ (c, b, a, 8) ∷ (a, c, b, 16) ∷ (b, a, c, 19) ∷ (c, b, a, 4) ∷ []

unfoldable pub lookup3_mix_steps : List Step
lookup3_mix_steps = flat_map lookup3_mix_group lookup3_mix_table

-- x ^= y; x -= rotl(y, k)
abbrev pub lookup3_final_group : ℕ × ℕ × ℕ → List Step
lookup3_final_group (x, y, k) = Xor x y ∷ SubRotated x y k ∷ []

abbrev pub lookup3_final_table : List (ℕ × ℕ × ℕ)
lookup3_final_table = (c, b, 14) ∷ (a, c, 11) ∷ (b, a, 25) ∷ (c, b, 16) ∷ (a, c, 4) ∷ (b, a, 14) ∷ (c, b, 24) ∷ []

unfoldable pub lookup3_final_steps : List Step
lookup3_final_steps = flat_map lookup3_final_group lookup3_final_table

-- ---- Spooky's long form (SpookyV2.cpp), on twelve words of 64 bits, with twelve words of data

-- row i, which rotates by r
abbrev pub spooky_mix_row : ℕ × ℕ → List Step
spooky_mix_row (i, r) =
    AddData i i ∷ Xor ((i + 2) % 12) ((i + 10) % 12) ∷ Xor ((i + 11) % 12) i ∷ Rotate i r
    ∷ Add ((i + 11) % 12) ((i + 1) % 12) ∷ []

-- how far each row rotates
abbrev pub spooky_mix_turns : List ℕ
spooky_mix_turns = 11 ∷ 32 ∷ 43 ∷ 31 ∷ 17 ∷ 28 ∷ 39 ∷ 57 ∷ 55 ∷ 54 ∷ 22 ∷ 46 ∷ []

abbrev pub spooky_mix_rows : List (ℕ × ℕ)
spooky_mix_rows = enumerate_from 0 spooky_mix_turns

unfoldable pub spooky_mix_steps : List Step
spooky_mix_steps = flat_map spooky_mix_row spooky_mix_rows

abbrev pub spooky_end_partial_row : ℕ × ℕ → List Step
spooky_end_partial_row (i, r) =
    Add ((i + 11) % 12) ((i + 1) % 12) ∷ Xor ((i + 2) % 12) ((i + 11) % 12) ∷ Rotate ((i + 1) % 12) r ∷ []

abbrev pub spooky_end_partial_rows : List (ℕ × ℕ)
spooky_end_partial_rows = enumerate_from 0 (44 ∷ 15 ∷ 34 ∷ 21 ∷ 38 ∷ 33 ∷ 10 ∷ 13 ∷ 38 ∷ 53 ∷ 42 ∷ 54 ∷ [])

unfoldable pub spooky_end_partial_steps : List Step
spooky_end_partial_steps = flat_map spooky_end_partial_row spooky_end_partial_rows

-- the sum of each word and its word of data
unfoldable pub data_sums : List Step
data_sums = map (λ i. AddData i i) (range_with_len 0 12)

-- the sums, and three times the last mix
unfoldable pub spooky_end_steps : List Step
spooky_end_steps = data_sums ++ (spooky_end_partial_steps ++ (spooky_end_partial_steps ++ spooky_end_partial_steps))

-- ---- Spooky's short form (SpookyV2.cpp), on four words of 64 bits

abbrev pub short_mix_group : ℕ × ℕ → List Step
short_mix_group (p, r) = Rotate p r ∷ Add p ((p + 1) % 4) ∷ Xor ((p + 2) % 4) p ∷ []

abbrev pub short_mix_table : List (ℕ × ℕ)
short_mix_table =
    (2, 50) ∷ (3, 52) ∷ (0, 30) ∷ (1, 41) ∷ (2, 54) ∷ (3, 48) ∷ (0, 38) ∷ (1, 37) ∷ (2, 62) ∷ (3, 34)
    ∷ (0, 5) ∷ (1, 36) ∷ []

unfoldable pub short_mix_steps : List Step
short_mix_steps = flat_map short_mix_group short_mix_table

abbrev pub short_end_group : ℕ × ℕ → List Step
short_end_group (q, r) = Xor ((q + 1) % 4) q ∷ Rotate q r ∷ Add ((q + 1) % 4) q ∷ []

abbrev pub short_end_table : List (ℕ × ℕ)
short_end_table =
    (2, 15) ∷ (3, 52) ∷ (0, 26) ∷ (1, 51) ∷ (2, 28) ∷ (3, 9) ∷ (0, 47) ∷ (1, 54) ∷ (2, 32) ∷ (3, 25)
    ∷ (0, 63) ∷ []

unfoldable pub short_end_steps : List Step
short_end_steps = flat_map short_end_group short_end_table
