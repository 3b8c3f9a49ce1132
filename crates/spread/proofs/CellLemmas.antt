-- Cells that are put behind others.
use Rattle.std.proofs.Common.{ℕ, suc, ◌≡◌, ◌+◌, ◌<◌, ◌++◌, ◌∷◌, [], List, Result, Ok, Err, length, get_or, map, take, subst, sym, append-nil, append_assoc, IfOk, replicate, string_bytes, Global, String}
use Rattle.std.proofs.lemmas.List.{map_more}
use Rattle.spread.specs.Lines.{AreCells, AddsCell, AddsCells, IsLine, more, one}

pub adds_none : (text : List ℕ) → AddsCells text [] text
adds_none text those are = subst (λ cells. AreCells cells text) (sym (append-nil those)) are

pub adds_more : (before between after : List ℕ) (cells : List (List ℕ)) (cell : List ℕ) → AddsCells before cells between
    → AddsCell between cell after → AddsCells before (cells ++ cell ∷ []) after
adds_more before between after cells cell adds (spaces, is) those are =
    rw is (subst (λ all. AreCells all ((between ++ replicate (suc spaces) 32) ++ cell)) (append_assoc those cells (cell ∷ []))
    (more spaces cell (adds those are)))

-- a text that ends as a line
pub ended_line : {E : Type 0} (cells : List (List ℕ)) (text : List ℕ) → AreCells cells text → (result : Result (String Global) E)
    → IfOk result (λ line. string_bytes line ≡ text ++ 10 ∷ []) → IfOk result (λ line. IsLine cells (string_bytes line))
ended_line cells text are (Ok line) is = (text, are, sym is)
ended_line cells text are (Err error) is = tt

-- a text of one cell, and one with a cell more
pub first_cell : (text cell : List ℕ) → text ≡ cell → AreCells (cell ∷ []) text
first_cell text cell is = subst (λ t. AreCells (cell ∷ []) t) (sym is) (one cell)

pub one_more : (cells : List (List ℕ)) (before word cell after : List ℕ) → AreCells cells before → AddsCell before word after → word ≡ cell
    → AreCells (cells ++ cell ∷ []) after
one_more cells before word cell after are (spaces, is) same =
    rw is (subst (λ w. AreCells (cells ++ cell ∷ []) ((before ++ replicate (suc spaces) 32) ++ w)) (sym same) (more spaces cell are))

pub ended_with : {E : Type 0} (cells : List (List ℕ)) (cell text : List ℕ) → AreCells (cells ++ cell ∷ []) text
    → (result : Result (String Global) E) → IfOk result (λ line. string_bytes line ≡ text ++ 10 ∷ [])
    → IfOk result (λ line. (shown : List ℕ) × IsLine (cells ++ shown ∷ []) (string_bytes line))
ended_with cells cell text are (Ok line) is = (cell, (text, are, sym is))
ended_with cells cell text are (Err error) is = tt

-- the next of things, each of which is a cell
pub adds_next : {N : Type 0} (v : N → List ℕ) (xs : List N) (i : ℕ) (d : N) (before between word after : List ℕ) → i < length xs
    → AddsCells before (map v (take i xs)) between → AddsCell between word after → word ≡ v (get_or xs i d)
    → AddsCells before (map v (take (i + 1) xs)) after
adds_next v xs i d before between word after below adds adds_one same =
    rw (map_more v xs i d below) (
    adds_more before between after (map v (take i xs)) (v (get_or xs i d)) adds (subst (λ w. AddsCell between w after) same adds_one)
    )
