use Rattle.hash_c.proofs.Common.{◌∙◌, ap, sym, arith, get_or-map}
use Rattle.hash_c.proofs.column.place.Goals as goal

pub returns : goal.returns
returns g c =
    let at = c.index-offsets-i in
    c.number.ensures ∙ sym (get_or-map g.O.Offset.number c.args.offsets.now _ _ 0 (omega arith) ∙ ap g.O.Offset.number (sym at.is))
