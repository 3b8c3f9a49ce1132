use Rattle.hash_c.proofs.Common.{map, arith, rules, tests, length-map}
use Rattle.hash_c.proofs.OffsetLemmas.{offsets_by_last, last_within}
use Rattle.hash_c.proofs.column.are_offsets.Goals as goal

pub returns-then-place-size : goal.returns-then-place-size
returns-then-place-size g c =
    let places = map g.O.Offset.number c.args.offsets.now in
    let (falls, rises) = c.none_falls.ensures in (
      λ yes. offsets_by_last c.args.size c.args.count places (omega (arith, length-map c.args.offsets.now g.O.Offset.number))
          (omega (arith, c.place.ensures)) (falls yes),
      λ are. rises are.rise,
    )

pub returns-else-place-size : goal.returns-else-place-size
returns-else-place-size g c =
    let places = map g.O.Offset.number c.args.offsets.now in
    (λ yes. search (rules, tests), λ are. absurd (omega (arith, c.place.ensures, last_within c.args.size c.args.count places are)))
