-- The texts of lines, each once.
use Rattle.std.specs.Prelude.{ℕ, ◌≡◌, ◌++◌, false, fold, map, List, [], ◌∷◌}
use Rattle.std.specs.Io.BufRead.{strip_last}
use Rattle.std.specs.List.{flat_map}
use Rattle.text_set.specs.Lines.{lines_by}
use Rattle.text_set.specs.Texts.{has, with_text}

-- the texts of lines, each once, where it came first: those of a set that takes them in
abbrev pub firsts_by : (eol : ℕ) → List (List ℕ) → List (List ℕ)
firsts_by eol ls = fold with_text [] (map (strip_last eol) ls)

-- texts, each with its end behind it
abbrev pub as_lines : (eol : ℕ) → List (List ℕ) → List ℕ
as_lines eol texts = flat_map (λ text. text ++ eol ∷ []) texts

-- lines each once, where they came first, each with its end behind it
abbrev pub once_by : (eol : ℕ) → List (List ℕ) → List ℕ
once_by eol ls = as_lines eol (firsts_by eol ls)

-- the same of the lines of a text
abbrev pub each_once_by : (eol : ℕ) → List ℕ → List ℕ
each_once_by eol text = once_by eol (lines_by eol text)

-- the text stands at a place before which the other does not
abbrev pub ComesBefore : List (List ℕ) → (text other : List ℕ) → Type 0
ComesBefore texts text other = (before after : List (List ℕ)) × (texts ≡ before ++ text ∷ after) × (has before other ≡ false)
