-- What a program's help shows of its options.
use Rattle.std.specs.Prelude.{ℕ, ◌+◌, ◌-◌, ◌==◌, ◌++◌, List, [], ◌∷◌, Option, Some, None, fold, length, max, replicate, codes}
use Rattle.std.specs.List.{flat_map, slice_split}
use Rattle.std.specs.Char.{encode_utf8}
use Rattle.cli.specs.declared.call.Opt.{Opt}

-- an option's letter, if it has one
abbrev pub letter_of : Option ℕ → List ℕ
letter_of None = codes "      --"
letter_of (Some letter) = codes "  -" ++ (encode_utf8 letter ++ codes ", --")

-- what its value is called, if it takes one
abbrev pub behind_name : List ℕ → List ℕ
behind_name [] = []
behind_name (byte ∷ more) = 32 ∷ byte ∷ more

abbrev pub label : Opt → List ℕ
label opt = letter_of opt.letter ++ (opt.name.now ++ behind_name opt.value.now)

-- lines that begin in a column, where the first has so much in front of it
abbrev pub in_column : (column front : ℕ) → (lines : List (List ℕ)) → List ℕ
in_column column front [] = []
in_column column front (line ∷ more) = replicate (column - front) 32 ++ (line ++ (10 ∷ in_column column 0 more))

-- an option, with what it does from that column on
abbrev pub shown : (column : ℕ) → Opt → List ℕ
shown column opt = label opt ++ in_column column (length (label opt)) (slice_split (λ byte. byte == 10) opt.words.now)

-- two spaces at least stand behind each label
abbrev pub column : List Opt → ℕ
column options = fold (λ most opt. max most (length (label opt) + 2)) 0 options

abbrev pub help : (front : List ℕ) → List Opt → (behind : List ℕ) → List ℕ
help front options behind = front ++ (flat_map (shown (column options)) options ++ behind)
