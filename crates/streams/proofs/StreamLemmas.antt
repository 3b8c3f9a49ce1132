-- Bytes of which a beginning is written, and what holds after an error.
use Rattle.std.proofs.Common.{ℕ, ◌≡◌, ◌-◌, List, [], ◌++◌, Option, length, take, drop, Result, Ok, Err, OnErr, take-append-drop, append_assoc, append-nil, refl, ap, sym, ◌∙◌}
use Rattle.std.specs.Io.KnownBytes.{Appends}
use Rattle.std.proofs.KnownBytes.{Appends-nil, Appends-trans}
use Rattle.std.proofs.lemmas.List.{take_rest}
use Rattle.streams.specs.Streams.{AppendsPart}

-- what is written and what is left of some bytes, after more of them
pub taken_more : (part rest bytes : List ℕ) (n : ℕ) → part ++ rest ≡ bytes
    → (part ++ take n rest) ++ take (length rest - n) (drop n rest) ≡ bytes
taken_more part rest bytes n is =
    ap (λ t. (part ++ take n rest) ++ t) (take_rest rest n) ∙ append_assoc part (take n rest) (drop n rest)
    ∙ ap (λ t. part ++ t) (take-append-drop n rest) ∙ is

-- a beginning of some bytes, behind others
pub part_behind : (a b c : Option (List ℕ)) (xs ys : List ℕ) → Appends a b xs → AppendsPart b c ys → AppendsPart a c (xs ++ ys)
part_behind a b c xs ys first (part, rest, is, second) =
    (xs ++ part, rest, append_assoc xs part rest ∙ ap (λ t. xs ++ t) is, Appends-trans a b c xs part first second)

-- all of them
pub part_whole : (a b : Option (List ℕ)) (xs : List ℕ) → Appends a b xs → AppendsPart a b xs
part_whole a b xs all = (xs, [], append-nil xs, all)

-- nothing of them
pub part_none : (a : Option (List ℕ)) (xs : List ℕ) → AppendsPart a a xs
part_none a xs = ([], xs, refl, Appends-nil a)

-- a beginning of a beginning
pub part_longer : (a b : Option (List ℕ)) (xs more all : List ℕ) → xs ++ more ≡ all → AppendsPart a b xs → AppendsPart a b all
part_longer a b xs more all whole (part, rest, is, wrote) =
    (part, rest ++ more, sym (append_assoc part rest more) ∙ ap (λ t. t ++ more) is ∙ whole, wrote)

-- what holds holds after an error
pub on_err : {A E : Type 0} (P : Type 0) (result : Result A E) → P → OnErr result P
on_err P (Ok it) holds = tt
on_err P (Err error) holds = holds
