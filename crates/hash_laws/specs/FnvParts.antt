-- What the variants of the hash of Fowler, Noll and Vo share (the FNV authors' page, www.isthe.com/chongo/tech/comp/fnv).
use Rattle.std.specs.Prelude.{ℕ, ◌*◌, ◌%◌, ◌^◌, bit_xor}

-- the starts, which the authors call offset bases
abbrev pub fnv1a32_basis : ℕ
fnv1a32_basis = 2166136261

abbrev pub fnv1a64_basis : ℕ
fnv1a64_basis = 14695981039346656037

-- one byte of the variants 0 and 1, by width and prime: a product, and then it is xored in
abbrev pub fnv1_step : ℕ → ℕ → ℕ → ℕ → ℕ
fnv1_step width prime h b = bit_xor (h * prime % 2 ^ width) b
