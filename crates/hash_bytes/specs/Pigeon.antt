-- Bricolage (Steven Pigeon's blog, hbfs.wordpress.com).
use Rattle.std.specs.Prelude.{ℕ, ◌+◌, ◌*◌, ◌%◌, ◌^◌, List}
use Rattle.hash_words.specs.Words.{swap_halves}
use Rattle.hash_rounds.specs.Shuffle.{shuffle}
use Rattle.hash_laws.specs.Recurrence.{recurrence}

-- one byte: its product, the bits shuffled, is added, and the halves change places
abbrev pub bricolage_step : ℕ → ℕ → ℕ
bricolage_step h b = swap_halves ((h + shuffle (b * 173773926194192273 % 2 ^ 64)) % 2 ^ 64)

-- the state after a text, from a start, by default 0
abbrev pub bricolage_from : ℕ → List ℕ → ℕ
bricolage_from = recurrence bricolage_step
