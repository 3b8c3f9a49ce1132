use Rattle.std.proofs.Common.{◌≡◌, ◌∷◌, ◌++◌, [], ap, ap₂, sym, ◌∙◌, get_or, map, decimal, string_bytes}
use Rattle.std.proofs.lemmas.List.{map_more, map_push}
use Rattle.spread.proofs.table.cells_of.Goals as goal

pub loop-number-preserved : goal.loop-number-preserved
loop-number-preserved c =
    let numbers = c.args.numbers.now in
    let i = c.loop-number.number-index in
    let digits : string_bytes c.in_ok-format.field-0 ≡ decimal (get_or numbers i 0) = c.in_ok-format.ensures.ok in
    ap (map string_bytes) c.in_ok-push.ensures.items ∙ map_push string_bytes c.loop-number.cells.items c.in_ok-format.field-0
    ∙ ap₂ (λ cells cell. cells ++ cell ∷ []) c.loop-number.invariant digits ∙ sym (map_more decimal numbers i 0 c.loop-number-test.true)
