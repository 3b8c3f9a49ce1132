use Rattle.hash_xxh3.proofs.Common.{◌≡◌, ◌-◌, ◌*◌, ◌/◌, ℕ, List, length, drop, ap, ◌∙◌, refl, arith, ap₂, Lanes, stripes_in, last_words, stripes_in-take, length-drop}
use Rattle.hash_xxh3.proofs.long.kept_words.Goals as goal

pub returns : goal.returns
returns c =
    let kept = c.args.kept.now in
    let secret = c.args.secret.now in
    let lanes = c.args.lanes.now in
    let k : ℕ = (length kept - 65) / 64 in
    let behind = c.split_at.result.1.now in
    let far : (length kept - 65) / 64 * 64 ≡ 64 * k = omega arith in
    let size : length behind ≡ length kept - 64 = ap length c.split_at.ensures.back ∙ length-drop 64 kept in
    let next = c.stripes_in-next.ensures.value
    ∙ ap (λ (x : List ℕ). stripes_in secret lanes (length x / 64) x) c.split_at-2.ensures.front
    ∙ stripes_in-take secret lanes k ((length kept - 65) / 64 * 64) behind refl (omega arith)
    ∙ ap (stripes_in secret lanes k) c.split_at.ensures.back in
    let end = c.split_at-3.ensures.back ∙ ap (λ n. drop n kept) far in
    c.last_words.ensures ∙ ap₂ (λ (l : Lanes) (x : List ℕ). last_words secret l.words x) next end
