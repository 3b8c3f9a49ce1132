use Rattle.std.proofs.Common.{ap, sym, ◌∙◌, bytes_eq}
use Rattle.hash_kinds.specs.Named.{name_of}
use Rattle.hash_c.proofs.Places.{found_here, found_nowhere}
use Rattle.hash_c.proofs.kinds.first_place.Goals as goal

pub returns-then-eq-clause-first : goal.returns-then-eq-clause-first
returns-then-eq-clause-first c =
    let name = c.args.name.now in
    found_here (λ kind. bytes_eq (name_of kind) name) c.args.kinds.now c.loop-place.place _ c.loop-place-test.true
    (ap (λ n. bytes_eq n name) (sym (c.as_bytes.ensures.value ∙ c.row.ensures.named)) ∙ sym c.eq.ensures ∙ c.if-eq.true)
    c.loop-place.invariant

pub returns-clause-first : goal.returns-clause-first
returns-clause-first c =
    found_nowhere (λ kind. bytes_eq (name_of kind) c.args.name.now) c.args.kinds.now c.loop-place.place c.loop-place-test.false
    c.loop-place.invariant
