use Rattle.hash_xxh3.proofs.Common.{◌≡◌, ◌+◌, ◌-◌, ◌*◌, ◌/◌, ◌≤◌, ◌++◌, ℕ, List, length, take, drop, ap, ◌∙◌, refl, arith, put_at, take-put_two, take-put_at, length-drop, take_all}
use Rattle.hash_xxh3.proofs.AdvanceLemmas.{kept_behind}
use Rattle.hash_xxh3.proofs.advance.keep.Goals as goal

pub returns-then-whole-eq0-clause-kept : goal.returns-then-whole-eq0-clause-kept
returns-then-whole-eq0-clause-kept c =
    let stripe = c.args.stripe.now in
    let rest = c.args.rest.now in
    let few : length rest ≤ 64 = omega arith in
    let none : 0 ≡ 64 * ((length rest - 1) / 64) = omega arith in
    ap (take (64 + length rest)) (c.put-then-whole-eq0.ensures ∙ ap (put_at 64 rest) c.put.ensures)
    ∙ take-put_two 0 64 stripe rest c.args.buffer.now (64 + length rest) (omega arith) refl (omega arith)
    ∙ ap (λ n. drop n (stripe ++ rest)) none

pub returns-else-whole-eq0-clause-kept : goal.returns-else-whole-eq0-clause-kept
returns-else-whole-eq0-clause-kept c =
    let stripe = c.args.stripe.now in
    let rest = c.args.rest.now in
    let whole : ℕ = (length rest - 1) / 64 * 64 in
    let left : List ℕ = drop (whole - 64) rest in
    let some : 64 ≤ whole = omega arith in
    let size : length left ≡ 64 + length rest - whole = omega (arith, length-drop (whole - 64) rest) in
    let written : c.put-else-whole-eq0.new.buffer ≡ put_at 0 left c.args.buffer.now =
    c.put-else-whole-eq0.ensures
    ∙ ap (λ (x : List ℕ). put_at 0 x c.args.buffer.now) (take_all (length rest - (whole - 64)) left (omega (arith, length-drop (whole - 64) rest))) in
    ap (take (64 + length rest - whole)) written
    ∙ take-put_at 0 left c.args.buffer.now (64 + length rest - whole) (omega arith) (omega arith)
    ∙ kept_behind stripe rest whole ((length rest - 1) / 64) c.told-stripe some refl
