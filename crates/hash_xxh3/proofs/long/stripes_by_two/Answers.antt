use Rattle.hash_xxh3.proofs.Common.{◌/◌, ◌∙◌, ℕ, List, length, fold, ap, first_chunks, Lanes, start_lanes, stripes_in, pair_in, stripes-by_two-and_last, take_all}
use Rattle.hash_xxh3.proofs.long.stripes_by_two.Goals as goal

pub returns : goal.returns
returns c =
    let secret = c.args.secret.now in
    let text = c.args.text.now in
    let pairs = c.as_chunks.result.0.now in
    let lanes = c.loop-pair.invariant.0
    ∙ ap (fold (pair_in secret) start_lanes) (take_all c.loop-pair.pair-index pairs c.loop-pair-test.false ∙ c.as_chunks.ensures.front) in
    c.stripes_in.ensures.value
    ∙ ap (λ (l : Lanes). stripes_in secret l (length c.as_chunks.result.1.now / 64) c.as_chunks.result.1.now) lanes
    ∙ ap (λ (last : List ℕ). stripes_in secret (fold (pair_in secret) start_lanes (first_chunks 128 (length text / 128) text)) (length last / 64) last)
    c.as_chunks.ensures.back
    ∙ stripes-by_two-and_last secret start_lanes text
