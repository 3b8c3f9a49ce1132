-- Bob Jenkins' one-at-a-time hash, at 64 bits, from his page of hash functions (burtleburtle.net/bob/hash).
use Rattle.std.specs.Prelude.{ℕ, ◌+◌, ◌*◌, ◌%◌, ◌^◌, List}
use Rattle.hash_words.specs.Words.{xorshift}
use Rattle.hash_laws.specs.Recurrence.{recurrence}

-- one byte: it is added, then a product, then a shift folded on
abbrev pub oaat_step : ℕ → ℕ → ℕ
oaat_step h b = xorshift (1025 * ((h + b) % 2 ^ 64) % 2 ^ 64) 6

-- the state after a text, from a start, by default 0
abbrev pub oaat_state : ℕ → List ℕ → ℕ
oaat_state = recurrence oaat_step

-- the answer of a state: its last mix
abbrev pub oaat_finish : ℕ → ℕ
oaat_finish h = 32769 * xorshift (9 * h % 2 ^ 64) 11 % 2 ^ 64

-- the hash of a text
abbrev pub oaat_of : List ℕ → ℕ
oaat_of text = oaat_finish (oaat_state 0 text)
