use Rattle.std.proofs.Common.{◌≡◌, ◌≤◌, arith, rules, min, refl, ◌-◌}
use Rattle.std.proofs.Math.Nat.{zero-mod}
use Rattle.std.proofs.lemmas.Bool.{false≢true}
use Rattle.hash_laws.proofs.ReadingLemmas.{feeds_none, feeds_front, whole_more}
use Rattle.hash_laws.proofs.KnownText.{FeedsFirst-fed, FeedsAll-fed}
use Rattle.hash_laws.proofs.reading.reader.hash_reader.Goals as goal

pub loop-bytes-init : goal.loop-bytes-init
loop-bytes-init g c = record {
  so_far = feeds_none _ _ _ _ c.requires.not_empty;
  within = search rules;
  whole = λ _. zero-mod _;
}

pub returns-in-Err-clause-fault : goal.returns-in-Err-clause-fault
returns-in-Err-clause-fault g c =
    let fed = c.feed_unless_empty.ensures in
    feeds_front _ g.H.Piecewise.state _ _ _ _ _ c.requires.not_empty c.loop-bytes.invariant.so_far
    (c.loop-bytes.invariant.whole c.loop-bytes-test.true) c.fill-filled.ensures.read c.fill-filled.ensures.within
    (omega (arith, c.fill-filled.auto.buf, c.min-room.ensures)) fed.text fed.untouched fed.fed

pub returns-then-filled-room-clause-taken : goal.returns-then-filled-room-clause-taken
returns-then-filled-room-clause-taken g c =
    let fed = c.feed_unless_empty.ensures in
    feeds_front _ g.H.Piecewise.state _ _ _ _ _ c.requires.not_empty c.loop-bytes.invariant.so_far
    (c.loop-bytes.invariant.whole c.loop-bytes-test.true) c.fill-filled.ensures.read c.fill-filled.ensures.within
    (omega (arith, c.fill-filled.auto.buf, c.min-room.ensures)) fed.text fed.untouched fed.fed

pub loop-bytes-preserved : goal.loop-bytes-preserved
loop-bytes-preserved g c =
    let before = c.loop-bytes.invariant in
    let filled = c.fill-filled.ensures in
    let fed = c.feed_unless_empty.ensures in
    let few : c.fill-filled.result.0 ≤ g.row.N = omega (arith, c.fill-filled.auto.buf, c.min-room.ensures) in
    let full : c.fill-filled.result.0 ≡ min (c.args.limit - c.loop-bytes.bytes) g.row.N
    = omega (arith, c.fill-filled.auto.buf, c.min-room.ensures, c.if-filled-room.false) in
    record {
      so_far = feeds_front _ g.H.Piecewise.state _ _ _ _ _ c.requires.not_empty before.so_far (before.whole c.loop-bytes-test.true)
          filled.read filled.within few fed.text fed.untouched fed.fed;
      within = omega arith;
      whole = whole_more _ _ _ _ c.requires.not_empty full (before.whole c.loop-bytes-test.true);
    }

pub returns-clause-at_limit : goal.returns-clause-at_limit
returns-clause-at_limit g c = (λ _. omega (arith, c.loop-bytes.invariant.within), λ _. refl)

pub returns-clause-nothing_left : goal.returns-clause-nothing_left
returns-clause-nothing_left g c = λ no. absurd (false≢true no)

-- where the bytes are known
pub returns-in-Err-clause-first_fault : goal.returns-in-Err-clause-first_fault
returns-in-Err-clause-first_fault g c = FeedsFirst-fed _ _ _ _ _ _ _ (returns-in-Err-clause-fault g c)

pub returns-then-filled-room-clause-first_taken : goal.returns-then-filled-room-clause-first_taken
returns-then-filled-room-clause-first_taken g c = FeedsFirst-fed _ _ _ _ _ _ _ (returns-then-filled-room-clause-taken g c)

pub returns-then-filled-room-clause-all : goal.returns-then-filled-room-clause-all
returns-then-filled-room-clause-all g c = λ ended. FeedsAll-fed _ _ _ _ _ _ _ (returns-then-filled-room-clause-taken g c) (search rules)

pub returns-clause-first_taken : goal.returns-clause-first_taken
returns-clause-first_taken g c = FeedsFirst-fed _ _ _ _ _ _ _ c.loop-bytes.invariant.so_far

pub returns-clause-all : goal.returns-clause-all
returns-clause-all g c = λ no. absurd (false≢true no)
