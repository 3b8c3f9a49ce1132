-- djb2 in its form with a sum, Dan Bernstein's first (Oz' page of hash functions, www.cse.yorku.ca/~oz/hash.html), which the section
-- .gnu.hash of ELF files takes too.
use Rattle.std.specs.Prelude.{ℕ, ◌+◌, ◌*◌, ◌%◌, ◌^◌, List}
use Rattle.hash_laws.specs.Recurrence.{recurrence}

-- one byte: a product by 33, and then the byte is added
abbrev pub djb2_add_step : ℕ → ℕ → ℕ
djb2_add_step h b = (33 * h + b) % 2 ^ 32

-- the state after a text, from a start, by default 5381
abbrev pub djb2_add_from : ℕ → List ℕ → ℕ
djb2_add_from = recurrence djb2_add_step
