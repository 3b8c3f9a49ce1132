-- The hash of Fowler, Noll and Vo in the variant 1 (the FNV authors' page, www.isthe.com/chongo/tech/comp/fnv): from the offset basis,
-- for each byte a product by the FNV prime, and then the byte is xored in.
use Rattle.std.specs.Prelude.{ℕ, List}
use Rattle.hash_laws.specs.Recurrence.{recurrence}
use Rattle.hash_laws.specs.FnvParts.{fnv1_step}

-- one byte
abbrev pub fnv1_32_step : ℕ → ℕ → ℕ
fnv1_32_step = fnv1_step 32 16777619

abbrev pub fnv1_64_step : ℕ → ℕ → ℕ
fnv1_64_step = fnv1_step 64 1099511628211

-- the state after a text, from a start
abbrev pub fnv1_32_from : ℕ → List ℕ → ℕ
fnv1_32_from = recurrence fnv1_32_step

abbrev pub fnv1_64_from : ℕ → List ℕ → ℕ
fnv1_64_from = recurrence fnv1_64_step
