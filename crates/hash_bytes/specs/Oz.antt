-- djb2, Dan Bernstein's hash in its form with xor (Oz' page of hash functions, www.cse.yorku.ca/~oz/hash.html).
use Rattle.std.specs.Prelude.{ℕ, ◌*◌, ◌%◌, ◌^◌, List, bit_xor}
use Rattle.hash_laws.specs.Recurrence.{recurrence}

-- one byte: a product by 33, and then the byte is xored in
abbrev pub djb2_step : ℕ → ℕ → ℕ
djb2_step h b = bit_xor (33 * h % 2 ^ 32) b

-- the state after a text, from a start, by default 5381
abbrev pub djb2_from : ℕ → List ℕ → ℕ
djb2_from = recurrence djb2_step

-- the hash of a text
abbrev pub djb2_of : List ℕ → ℕ
djb2_of text = djb2_from 5381 text
