-- Sizes of chunks, as a call gives them.
use Rattle.std.specs.Prelude.{ℕ, ◌-◌, ◌*◌, ◌/◌, ◌^◌, ◌==◌, ◌&&◌, ◌||◌, nat_lt, min, max, if◌then◌else◌, List, [], ◌∷◌, Option, Some, None, codes}
use Rattle.std.specs.Option.{is_none}
use Rattle.std.specs.Char.{is_ascii_digit}
use Rattle.cli.specs.Call.{Saying, value_of}
use Rattle.cli.specs.Numbers.{fitting, number_of}
use Rattle.cuts_core.specs.declared.sizes.Size.{Size}
use Rattle.cuts_core.specs.declared.sizes.Size.TheVariants.{Least, Average, Most}
use Rattle.cuts_core.specs.declared.sizes.Sizes.{Sizes}

-- so many times a unit
abbrev pub times : (unit : ℕ) → Option ℕ → Option ℕ
times unit None = None
times unit (Some number) = fitting (number * unit)

abbrev pub in_units : (digits : List ℕ) (unit : ℕ) → Option ℕ
in_units digits unit = times unit (number_of digits)

-- how many bytes a letter stands for: a power of 1024, or of 1000
abbrev pub binary : (letter : ℕ) → Option ℕ
binary letter =
    if letter == 75 || letter == 107 then Some (2 ^ 10) else if letter == 77 || letter == 109 then Some (2 ^ 20) else
    if letter == 71 then Some (2 ^ 30) else if letter == 84 then Some (2 ^ 40) else if letter == 80 then Some (2 ^ 50) else
    if letter == 69 then Some (2 ^ 60) else None

abbrev pub thousands : (letter : ℕ) → Option ℕ
thousands letter =
    if letter == 75 || letter == 107 then Some (10 ^ 3) else if letter == 77 || letter == 109 then Some (10 ^ 6) else
    if letter == 71 then Some (10 ^ 9) else if letter == 84 then Some (10 ^ 12) else if letter == 80 then Some (10 ^ 15) else
    if letter == 69 then Some (10 ^ 18) else None

-- the unit behind digits, as GNU's programs have it: none, K or KiB for 1024, KB for 1000, and so for the other letters
abbrev pub unit_of : (suffix : List ℕ) → Option ℕ
unit_of [] = Some 1
unit_of (letter ∷ []) = binary letter
unit_of (letter ∷ next ∷ []) = if next == 66 then thousands letter else None
unit_of (letter ∷ next ∷ last ∷ []) = if next == 105 && last == 66 then binary letter else None
unit_of (letter ∷ next ∷ last ∷ more ∷ others) = None

-- the digits that a word begins with, and what stands behind them
abbrev pub leading : List ℕ → List ℕ
leading [] = []
leading (byte ∷ more) = if is_ascii_digit byte then byte ∷ leading more else []

abbrev pub behind : List ℕ → List ℕ
behind [] = []
behind (byte ∷ more) = if is_ascii_digit byte then behind more else byte ∷ more

-- the size that a word says
abbrev pub size_by : (unit : Option ℕ) (digits : List ℕ) → Option ℕ
size_by None digits = None
size_by (Some unit) digits = in_units digits unit

abbrev pub size_of : (word : List ℕ) → Option ℕ
size_of word = size_by (unit_of (behind word)) (leading word)

-- the size that a call gives by an option, or the default
abbrev pub size_or : (default : ℕ) → Option (List ℕ) → Option ℕ
size_or default None = Some default
size_or default (Some word) = size_of word

abbrev pub given_or : (call : List Saying) (name : List ℕ) (default : ℕ) → Option ℕ
given_or call name default = size_or default (value_of name call)

-- these sizes, if all are there
abbrev pub all_three : (least : Option ℕ) (average : ℕ) (most : Option ℕ) → Option Sizes
all_three (Some least) average (Some most) = Some (record { least = least; average = average; most = most })
all_three least average most = None

-- the sizes by the average: a quarter of it at least, and four times as many bytes at most, if the call doesn't say otherwise
abbrev pub sizes_by : (call : List Saying) (average : Option ℕ) → Option Sizes
sizes_by call None = None
sizes_by call (Some average) = all_three (given_or call (codes "least") (max (average / 4) 64)) average
    (given_or call (codes "most") (min (average * 4) (2 ^ 64 - 1)))

-- the average if none is given: 64 K bytes, or four times the least if that is more than 64 K
abbrev pub average_behind : (least : Option ℕ) → ℕ
average_behind None = 65536
average_behind (Some least) = if nat_lt 65536 least then min (least * 4) (2 ^ 64 - 1) else 65536

-- the sizes of a call
abbrev pub sizes_of : (call : List Saying) → Option Sizes
sizes_of call = sizes_by call (given_or call (codes "average") (average_behind (given_or call (codes "least") 0)))

-- the name of the option that gives a size
abbrev pub name_of : Size → List ℕ
name_of Least = codes "least"
name_of Average = codes "average"
name_of Most = codes "most"

-- the first size that a call gives as what is none
abbrev pub no_size : (call : List Saying) → Size
no_size call = if is_none (given_or call (codes "average") 0) then Average else if is_none (given_or call (codes "least") 0) then Least else Most

-- the first of the sizes that is below 64, or below the one before it
abbrev pub fallen : Sizes → Option Size
fallen sizes = if nat_lt sizes.least 64 then Some Least else if nat_lt sizes.average sizes.least then Some Average else
    if nat_lt sizes.most sizes.average then Some Most else None
