-- The hash of Fowler, Noll and Vo in the variant 1a (the FNV authors' page, www.isthe.com/chongo/tech/comp/fnv).
use Rattle.std.specs.Prelude.{ℕ, ◌*◌, ◌%◌, ◌^◌, List, bit_xor}
use Rattle.hash_laws.specs.Recurrence.{recurrence}
pub use Rattle.hash_laws.specs.FnvParts.{fnv1a32_basis, fnv1a64_basis, fnv1_step}

-- one byte: it is xored in, and then a product by the FNV prime
abbrev pub fnv1a32_step : ℕ → ℕ → ℕ
fnv1a32_step h b = bit_xor h b * 16777619 % 2 ^ 32

abbrev pub fnv1a64_step : ℕ → ℕ → ℕ
fnv1a64_step h b = bit_xor h b * 1099511628211 % 2 ^ 64

-- the state after a text, from a start
abbrev pub fnv1a32_from : ℕ → List ℕ → ℕ
fnv1a32_from = recurrence fnv1a32_step

abbrev pub fnv1a64_from : ℕ → List ℕ → ℕ
fnv1a64_from = recurrence fnv1a64_step

-- the hash of a text
abbrev pub fnv1a32_of : List ℕ → ℕ
fnv1a32_of text = fnv1a32_from fnv1a32_basis text

abbrev pub fnv1a64_of : List ℕ → ℕ
fnv1a64_of text = fnv1a64_from fnv1a64_basis text

-- the oldest variant, FNV-0: from 0, by the same step
abbrev pub fnv0 : ℕ → ℕ → List ℕ → ℕ
fnv0 width prime = recurrence (fnv1_step width prime) 0
