-- Bob Jenkins' one-at-a-time hash at 32 bits, as he published it (Dr. Dobb's Journal, September 1997;
-- burtleburtle.net/bob/hash/doobs.html).
use Rattle.std.specs.Prelude.{ℕ, ◌+◌, ◌*◌, ◌%◌, ◌^◌, List}
use Rattle.hash_laws.specs.Recurrence.{recurrence}
use Rattle.hash_words.specs.Words.{xorshift}

-- one byte: it is added, then a product, then a shift folded on
abbrev pub joaat_step : ℕ → ℕ → ℕ
joaat_step h b = xorshift (1025 * ((h + b) % 2 ^ 32) % 2 ^ 32) 6

-- the state after a text, from a start, by default 0
abbrev pub joaat_from : ℕ → List ℕ → ℕ
joaat_from = recurrence joaat_step

-- the answer of a state: its last mix
abbrev pub joaat_answer : ℕ → ℕ
joaat_answer h = 32769 * xorshift (9 * h % 2 ^ 32) 11 % 2 ^ 32
