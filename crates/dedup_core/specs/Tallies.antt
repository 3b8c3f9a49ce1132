-- What the program writes of lines that it has counted.
use Rattle.std.specs.Prelude.{ℕ, ◌&&◌, not, ◌≡◌, ◌==◌, ◌-◌, ◌^◌, ◌++◌, min, Bool, if◌then◌else◌, nat_lt, List, [], ◌∷◌, length, map, decimal}
use Rattle.std.specs.Io.BufRead.{strip_last}
use Rattle.std.specs.List.{count_by, flat_map, repeat}
use Rattle.std.specs.Str.{bytes_eq}
use Rattle.text_set.specs.Firsts.{firsts_by}
use Rattle.dedup_core.specs.declared.tally.Which.{Which}

-- a number on the right of a column of seven, and a space
abbrev pub column : ℕ → List ℕ
column n = repeat (7 - length (decimal n)) (32 ∷ []) ++ (decimal n ++ 32 ∷ [])

-- whether a text that came so often is written
abbrev pub is_shown : Which → ℕ → Bool
is_shown which times = not (which.repeated && times == 1) && not (which.unique && nat_lt 1 times)

-- what is written of a text that came so often
abbrev pub shown : (eol : ℕ) → Which → ℕ → List ℕ → List ℕ
shown eol which times text = if is_shown which times then (if which.counts then column times else []) ++ (text ++ eol ∷ []) else []

-- how often a text is that of one of these lines, up to the greatest number of 64 bits
abbrev pub times_of : (eol : ℕ) → (ls : List (List ℕ)) → List ℕ → ℕ
times_of eol ls text = min (count_by (bytes_eq text) (map (strip_last eol) ls)) (2 ^ 64 - 1)

-- what is written of lines: those that came more than once, or once, or all, with how often they came or without, in the order in which
-- they came first
abbrev pub told : (eol : ℕ) → Which → List (List ℕ) → List ℕ
told eol which ls = flat_map (λ text. shown eol which (times_of eol ls text) text) (firsts_by eol ls)

-- the texts of the lines in their order, and how often the text at each place came
pub record Tallies (eol : ℕ) (ls : List (List ℕ)) (seen : List (List ℕ)) (times : List ℕ) : Type 0 where
  pub places : seen ≡ firsts_by eol ls
  pub counts : times ≡ map (times_of eol ls) seen
