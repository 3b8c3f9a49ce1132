use Rattle.hash_fx.proofs.Common.{◌≡◌, ◌+◌, drop}
use Rattle.std.proofs.Common.{◌↔◌, true, false}
use Rattle.std.proofs.lemmas.Bool.{OnTrue_at, OnTrue_from, both_ways}
use Rattle.hash_laws.specs.Text.{joined}
use Rattle.hash_fx.proofs.OneApart.{OneApart, one_from_DifferAtOnePlace, DifferAtOnePlace-from_one}
use Rattle.hash_fx.proofs.CutsLemmas.{SameCuts, no_piece}
use Rattle.hash_fx.proofs.PiecesLemmas.{fx32_pieces-differ, fx64_pieces-differ}
use Rattle.hash_fx.proofs.TestLemmas.{RestApart, left_equal, left_first, left_second, left_many, left_none, DifferByOneByte-iff, pieces_equal, pieces_differ}
use Rattle.hash_fx.proofs.pieces.apart_by_one_fx.Goals as goal
use Rattle.hash_fx.proofs.pieces.apart_by_one_fx.Goals.{then-apart-via-then-apart, then-apart-via-else-apart+then-not-differ_at_one_place, then-ne+else-apart+else-not-differ_at_one_place, else-ne}

-- a second piece that differs, or one that differs at more than one byte
pub returns-then-apart-clause-exactly : goal.returns-then-apart-clause-exactly
returns-then-apart-clause-exactly c =
    let x = c.args.x.now in
    let y = c.args.y.now in
    let cuts : SameCuts x y = c.same_cuts.ensures.exactly.0 c.if-not-same_cuts.false in
    let ne = pieces_differ _ _ c.ne.result c.ne.ensures c.if-ne.true in
    let never : OneApart (joined x) (joined y) → ⊥ = elim c.then-apart.branch as (λ _. OneApart (joined x) (joined y) → ⊥) [
      | then-apart-via-then-apart w ↦ left_second _ x y c.loop-i.i no_piece cuts c.loop-i-test.true c.loop-i.apart w.if-apart.true ne
          c.loop-i.invariant
      | then-apart-via-else-apart+then-not-differ_at_one_place w ↦
          left_many _ x y c.loop-i.i no_piece cuts c.loop-i-test.true c.loop-i.apart w.if-apart.false ne
          (λ one. both_ways w.differ_at_one_place.result w.if-not-differ_at_one_place.true
          (w.differ_at_one_place.ensures.1 (DifferAtOnePlace-from_one _ _ one)))
          c.loop-i.invariant
    ] in
    ((λ (e : false ≡ true). cc), λ d. absurd (never ((DifferByOneByte-iff x y cuts).1 d)))

-- an equal piece leaves it to the rest, and the first that differs wants the rest equal
pub loop-i-preserved : goal.loop-i-preserved
loop-i-preserved c =
    let x = c.args.x.now in
    let y = c.args.y.now in
    let i = c.loop-i.i in
    let P = OneApart (joined x) (joined y) in
    let cuts : SameCuts x y = c.same_cuts.ensures.exactly.0 c.if-not-same_cuts.false in
    elim c.if-ne.branch as (λ _. P ↔ RestApart c.if-ne.apart (drop (i + 1) x) (drop (i + 1) y)) [
      | then-ne+else-apart+else-not-differ_at_one_place w ↦
          let one = one_from_DifferAtOnePlace _ _ (w.differ_at_one_place.ensures.0 w.if-not-differ_at_one_place.false) in
          rw w.apart-is (left_first P x y i no_piece cuts c.loop-i-test.true c.loop-i.apart w.if-apart.false one c.loop-i.invariant)
      | else-ne w ↦
          rw w.apart-is (left_equal P x y i no_piece cuts c.loop-i-test.true c.loop-i.apart
          (pieces_equal _ _ c.ne.result c.ne.ensures w.if-ne.false) c.loop-i.invariant)
    ]

pub returns-clause-exactly : goal.returns-clause-exactly
returns-clause-exactly c =
    let x = c.args.x.now in
    let y = c.args.y.now in
    let cuts : SameCuts x y = c.same_cuts.ensures.exactly.0 c.if-not-same_cuts.false in
    let decided = left_none (OneApart (joined x) (joined y)) x y c.loop-i.i cuts c.loop-i-test.false c.loop-i.apart c.loop-i.invariant in
    let means = DifferByOneByte-iff x y cuts in
    ((λ yes. means.0 (decided.0 yes)), λ d. decided.1 (means.1 d))

pub returns-clause-differ_64 : goal.returns-clause-differ_64
returns-clause-differ_64 c =
    OnTrue_from c.loop-i.apart _ (λ yes. fx64_pieces-differ c.args.x.now c.args.y.now
    (OnTrue_at c.if-not-same_cuts.false c.same_cuts.ensures.first)
    (OnTrue_at c.if-not-same_cuts.false c.same_cuts.ensures.second) ((returns-clause-exactly c).0 yes))

pub returns-clause-differ_32 : goal.returns-clause-differ_32
returns-clause-differ_32 c =
    OnTrue_from c.loop-i.apart _ (λ yes. fx32_pieces-differ c.args.x.now c.args.y.now
    (OnTrue_at c.if-not-same_cuts.false c.same_cuts.ensures.first)
    (OnTrue_at c.if-not-same_cuts.false c.same_cuts.ensures.second) ((returns-clause-exactly c).0 yes))

pub returns-then-not-same_cuts-clause-exactly : goal.returns-then-not-same_cuts-clause-exactly
returns-then-not-same_cuts-clause-exactly c = (
  (λ (e : false ≡ true). cc),
  λ d. absurd (both_ways c.same_cuts.result c.if-not-same_cuts.true (c.same_cuts.ensures.exactly.1 d.same_cuts)),
)

pub returns-then-not-same_cuts-clause-differ_64 : goal.returns-then-not-same_cuts-clause-differ_64
returns-then-not-same_cuts-clause-differ_64 c = tt

pub returns-then-not-same_cuts-clause-differ_32 : goal.returns-then-not-same_cuts-clause-differ_32
returns-then-not-same_cuts-clause-differ_32 c = tt
