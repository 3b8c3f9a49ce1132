use Rattle.hash_xxh3.proofs.Common.{ap, ◌∙◌, ◌-◌, ◌*◌, ◌/◌, length, refl, arith, start_lanes, last_words, stripes_in-take}
use Rattle.hash_xxh3.proofs.long.end_words.Goals as goal

pub returns : goal.returns
returns c =
    let text = c.args.text.now in
    let n = (length text - 1) / 64 in
    let secret = c.args.secret.now in
    let lanes = c.stripes_by_two-lanes.ensures ∙ stripes_in-take secret start_lanes n ((length text - 1) / 64 * 64) text refl (omega arith) in
    c.last_words.ensures ∙ ap (λ l. last_words secret l.words text) lanes
