-- Numbers in hexadecimal digits.
use Rattle.std.specs.Prelude.{ℕ, suc, zero, ◌+◌, ◌-◌, ◌*◌, ◌/◌, ◌%◌, ◌&&◌, if◌then◌else◌, nat_lt, nat_le, Bool, List, [], ◌∷◌, ◌++◌, Option, Some, None, option_and_then}

-- the digit of a value below 16
abbrev pub digit : ℕ → ℕ
digit value = if nat_lt value 10 then 48 + value else 97 + (value - 10)

-- the last so many digits of a number, the high digit first
abbrev pub hex : (digits number : ℕ) → List ℕ
hex zero number = []
hex (suc digits) number = hex digits (number / 16) ++ digit (number % 16) ∷ []

-- whether a byte lies between two others
abbrev pub lies : (first last byte : ℕ) → Bool
lies first last byte = nat_le first byte && nat_le byte last

-- the value of a digit, of either case
abbrev pub digit_value : ℕ → Option ℕ
digit_value byte = if lies 48 57 byte then Some (byte - 48) else if lies 97 102 byte then Some (byte - 97 + 10) else if lies 65 70
    byte then Some (byte - 65 + 10) else None

-- the number of digits behind those of a number
abbrev pub value_behind : ℕ → List ℕ → Option ℕ
value_behind number [] = Some number
value_behind number (first ∷ more) = option_and_then (λ value. value_behind (number * 16 + value) more) (digit_value first)

-- the number of digits, if each byte is one
abbrev pub hex_value : List ℕ → Option ℕ
hex_value digits = value_behind 0 digits
