-- The hashes that are sums of bytes.
use Rattle.std.specs.Prelude.{ℕ, ◌+◌, ◌*◌, ◌%◌, ◌^◌, List, [], ◌∷◌, length, sum}

-- the bytes as digits in base x, the first byte the highest: the sum of t_i * x ^ (n - 1 - i)
abbrev pub digit_sum : ℕ → List ℕ → ℕ
digit_sum x [] = 0
digit_sum x (b ∷ t) = b * x ^ length t + digit_sum x t

-- sdbm (Oz' page of hash functions): the state after the bytes t, from the state s
unfoldable pub sdbm_from : ℕ → List ℕ → ℕ
sdbm_from s t = (s * 65599 ^ length t + digit_sum 65599 t) % 2 ^ 32

-- lose lose (Oz' page of hash functions): the state after the bytes t, from the state s
abbrev pub loselose_from : ℕ → List ℕ → ℕ
loselose_from s t = (s + sum t) % 2 ^ 64

-- the bytes t behind the word s, as one number in base 256, of which a word is kept
unfoldable pub passthrough_from : ℕ → List ℕ → ℕ
passthrough_from s t = (s * 256 ^ length t + digit_sum 256 t) % 2 ^ 64

-- one byte of each: the state, a digit further, and the byte
abbrev pub sdbm_step : ℕ → ℕ → ℕ
sdbm_step h b = (65599 * h + b) % 2 ^ 32

abbrev pub loselose_step : ℕ → ℕ → ℕ
loselose_step h b = (h + b) % 2 ^ 64

abbrev pub passthrough_step : ℕ → ℕ → ℕ
passthrough_step h b = (256 * h + b) % 2 ^ 64
