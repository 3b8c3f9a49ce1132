-- A number on the right of a column.
use Rattle.dedup_core.proofs.Common.{◌≡◌, ℕ, ◌-◌, List, [], ◌∷◌, ◌++◌, length, ap, ◌∙◌, arith, append_assoc, decimal, styled_decimal, format_spec, repeat, append-nil, column}
use Rattle.std.specs.Fmt.{padded_integral, char_count}
use Rattle.std.proofs.lemmas.Str.{encode_ascii}

-- what the format of seven columns on the right writes
pub column_is : (n : ℕ) → styled_decimal (format_spec 32 3 0 7 18446744073709551615) n ++ 32 ∷ [] ≡ column n
unfolding padded_integral char_count
column_is n =
    let digits = decimal n in
    let spaces : ℕ → List ℕ = λ k. repeat k (32 ∷ []) in
    let room = 7 - length digits - 0 - 0 in
    ap (λ fill. ((((repeat room fill ++ []) ++ []) ++ []) ++ (digits ++ repeat (room - room) fill)) ++ 32 ∷ [])
    (encode_ascii 32 (omega arith))
    ∙ ap (λ k. ((((spaces room ++ []) ++ []) ++ []) ++ (digits ++ spaces k)) ++ 32 ∷ []) (nothing room)
    ∙ ap (λ l. ((((spaces room ++ []) ++ []) ++ []) ++ l) ++ 32 ∷ []) (append-nil digits)
    ∙ append_assoc (((spaces room ++ []) ++ []) ++ []) digits (32 ∷ [])
    ∙ ap (λ l. l ++ (digits ++ 32 ∷ [])) (append-nil _ ∙ append-nil _ ∙ append-nil (spaces room))
    ∙ ap (λ k. spaces k ++ (digits ++ 32 ∷ [])) (same (length digits))
  where
    nothing : (k : ℕ) → k - k ≡ 0
    nothing k = omega arith

    same : (k : ℕ) → 7 - k - 0 - 0 ≡ 7 - k
    same k = omega arith
