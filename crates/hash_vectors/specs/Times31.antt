-- A hasher for tests: from 0, for each byte 31 * h + b at 32 bits, as Java's strings are hashed.
use Rattle.std.specs.Prelude.{ℕ, ◌+◌, ◌*◌, ◌%◌, ◌^◌}

abbrev pub times31_step : ℕ → ℕ → ℕ
times31_step h b = (31 * h + b) % 2 ^ 32
