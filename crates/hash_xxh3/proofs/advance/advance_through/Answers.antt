use Rattle.hash_xxh3.proofs.Common.{◌≡◌, ◌+◌, ◌-◌, ◌*◌, ◌/◌, ◌++◌, ℕ, List, length, take, drop, ap, ◌∙◌, refl, arith, ap₂, append_assoc, Lanes, stripes_in, Long, advanced, advanced_none, stripes_in-take, take-put_at, length-put_at, length-drop, length-take-le, take-append-drop}
use Rattle.hash_xxh3.proofs.AdvanceLemmas.{through}
use Rattle.hash_xxh3.proofs.advance.advance_through.Goals as goal

pub returns-clause-position : goal.returns-clause-position
returns-clause-position c = λ seed len secret_is.
    let buffer = c.args.buffer.now in
    let kept = c.args.kept in
    let lanes = c.args.lanes.now in
    let secret = c.args.secret.now in
    let head = c.split_at.result.0.now in
    let rest = c.split_at.result.1.now in
    let filled = c.put.new.buffer in
    let full = c.split_at-2.result.0.now in
    let behind = c.split_at-3.result.1.now in
    let stripe = c.unwrap.result.now in
    let end : ℕ = (kept + 63) / 64 * 64 in
    let m : ℕ = (kept + 63) / 64 - 1 in
    let k : ℕ = (length rest - 1) / 64 in
    let size : length filled ≡ 256 = ap length c.put.ensures ∙ length-put_at kept head buffer (omega arith) ∙ c.told-buffer in
    let whole : length full ≡ end = ap length c.split_at-2.ensures.front ∙ length-take-le end filled (omega arith) in
    let stripes : length full ≡ 64 + 64 * m = omega arith in
    let far : length full - 64 ≡ 64 * m = omega arith in
    let is : stripe ≡ drop (64 * m) full = (rw c.unwrap.ensures at c.last_chunk.ensures.cases).1.same ∙ ap (λ n. drop n full) far in
    let next = c.stripes_in-next.result in
    let some : length behind / 64 ≡ m = omega (arith, ap length c.split_at-3.ensures.back, length-drop 64 full) in
    let first : next ≡ stripes_in secret lanes m (drop 64 full) =
    c.stripes_in-next.ensures.value ∙ ap₂ (λ (n : ℕ) (x : List ℕ). stripes_in secret lanes n x) some c.split_at-3.ensures.back in
    let words = c.stripes_in.ensures.value
    ∙ ap (λ (x : List ℕ). stripes_in secret next (length x / 64) x) c.split_at-4.ensures.front
    ∙ stripes_in-take secret next k ((length rest - 1) / 64 * 64) rest refl (omega arith)
    ∙ ap (λ (l : Lanes). stripes_in secret l k rest) first
    ∙ ap (λ (s : List ℕ). stripes_in s (stripes_in s lanes m (drop 64 full)) k rest) secret_is in
    let all : full ++ rest ≡ take kept buffer ++ c.args.bytes.now =
    ap (λ (x : List ℕ). x ++ rest) (c.split_at-2.ensures.front ∙ ap (take end) c.put.ensures
    ∙ take-put_at kept head buffer end (omega arith) (omega arith))
    ∙ append_assoc (take kept buffer) head rest
    ∙ ap (λ (x : List ℕ). take kept buffer ++ x) (ap₂ (λ (a b : List ℕ). a ++ b) c.split_at.ensures.front c.split_at.ensures.back
    ∙ take-append-drop (end - kept) c.args.bytes.now) in
    let left = take c.keep.result c.keep.new.buffer in
    advanced_none seed c.stripes_in.result len left (omega (arith, c.keep.ensures.few, length-take-le c.keep.result c.keep.new.buffer (omega arith)))
    ∙ ap₂ (λ (l : Lanes) (x : List ℕ). Long seed l len x) words c.keep.ensures.kept
    ∙ through seed len m k lanes full stripe rest stripes is refl (omega arith) ∙ ap (advanced seed lanes len) all
