-- The lines of the table.
use Rattle.std.specs.Prelude.{ℕ, suc, ◌≡◌, ◌++◌, ◌∷◌, [], if◌then◌else◌, ◌==◌, Bool, true, false, List, Option, Some, None, MatchOption, codes, decimal, map, replicate}
use Rattle.hash_kinds.specs.Named.{name_of}
use Rattle.spread_core.specs.Table.{row_numbers}
use Rattle.spread_core.specs.declared.rows.TableRow.{TableRow}
use Rattle.spread.specs.declared.table.Column.{Column}
use Rattle.spread.specs.declared.table.Frame.{Frame}

-- a text of these cells: between two stand spaces, one at least
pub data AreCells : (cells : List (List ℕ)) (text : List ℕ) → Type 0 where
  one : (cell : List ℕ) → AreCells (cell ∷ []) cell
  more : {cells : List (List ℕ)} {text : List ℕ} (spaces : ℕ) (cell : List ℕ) → AreCells cells text
      → AreCells (cells ++ cell ∷ []) ((text ++ replicate (suc spaces) 32) ++ cell)

-- a text with spaces and a cell behind it
abbrev pub AddsCell : (before cell after : List ℕ) → Type 0
AddsCell before cell after = (spaces : ℕ) × (after ≡ (before ++ replicate (suc spaces) 32) ++ cell)

-- whatever the cells of a text are, these stand behind them
abbrev pub AddsCells : (before : List ℕ) (cells : List (List ℕ)) (after : List ℕ) → Type 0
AddsCells before cells after = (those : List (List ℕ)) → AreCells those before → AreCells (those ++ cells) after

-- a line of these cells
abbrev pub IsLine : (cells : List (List ℕ)) (line : List ℕ) → Type 0
IsLine cells line = (text : List ℕ) × AreCells cells text × (text ++ 10 ∷ [] ≡ line)

-- so many things of this name
abbrev pub counted : (count : ℕ) (thing : List ℕ) → List ℕ
counted count thing = decimal count ++ (32 ∷ (thing ++ (if count == 1 then [] else 115 ∷ [])))

-- the cells of a row: its hash's name, and its numbers
abbrev pub row_cells : TableRow → List (List ℕ)
row_cells row = name_of row.kind ∷ map decimal (row_numbers row.kind row.counts)

-- what stands above the numbers of the buckets
abbrev pub bucket_heads : List (List ℕ)
bucket_heads = codes "fullest" ∷ codes "empty" ∷ codes "squares" ∷ []

abbrev pub second_heads : Option ℕ → List (List ℕ)
second_heads None = []
second_heads (Some buckets) = bucket_heads

abbrev pub time_head : (times : Bool) → List (List ℕ)
time_head true = codes "ns" ∷ []
time_head false = []

abbrev pub names : List Column → List (List ℕ)
names columns = map (λ column. column.name.now) columns

-- the names of the columns of numbers, and all heads
abbrev pub number_heads : Frame → List (List ℕ)
number_heads frame = (codes "bits" ∷ codes "equal" ∷ bucket_heads) ++ second_heads frame.sizes.second

abbrev pub heads : Frame → List (List ℕ)
heads frame = (codes "hash" ∷ number_heads frame) ++ time_head frame.times

-- above them the number of keys, and each number of buckets
abbrev pub in_buckets : ℕ → List ℕ
in_buckets buckets = codes "in " ++ counted buckets (codes "bucket")

abbrev pub second_group : Option ℕ → List (List ℕ)
second_group None = []
second_group (Some buckets) = in_buckets buckets ∷ []

abbrev pub groups : Frame → List (List ℕ)
groups frame = counted frame.keys (codes "key") ∷ in_buckets frame.sizes.first ∷ second_group frame.sizes.second

-- the first two lines
abbrev pub IsHead : Frame → (head : List ℕ) → Type 0
IsHead frame head = (above line : List ℕ) × IsLine (groups frame) above × IsLine (heads frame) line × (above ++ line ≡ head)

-- the line of a row; behind its numbers stands a time if it was measured
abbrev pub IsRow : TableRow → (line : List ℕ) → Type 0
IsRow row line = MatchOption row.time (IsLine (row_cells row) line) (λ time. (shown : List ℕ) × IsLine (row_cells row ++ shown ∷ []) line)
