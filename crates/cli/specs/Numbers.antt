-- Numbers that words write.
use Rattle.std.specs.Prelude.{ℕ, ◌^◌, ◌&&◌, nat_lt, if◌then◌else◌, List, length, Option, Some, None}
use Rattle.std.specs.Str.Parse.{digits_value}
use Rattle.std.specs.Str.{all_ascii_digits}

-- the number if it is below 2 ^ 64
abbrev pub fitting : ℕ → Option ℕ
fitting number = if nat_lt number (2 ^ 64) then Some number else None

-- the number that decimal digits write
abbrev pub number_of : (digits : List ℕ) → Option ℕ
number_of digits = if all_ascii_digits digits && nat_lt 0 (length digits) then fitting (digits_value 10 digits) else None
