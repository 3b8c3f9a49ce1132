use Rattle.hash_cuts.proofs.Common.{◌≡◌, ◌<◌, ◌-◌, ◌⊎◌, ℕ, List, length, take, drop, arith, first_cut, drop-drop, length-drop, take_all, nat_tests, common_steps}
use Rattle.hash_cuts.proofs.ChunkLemmas.{first_cut-le}
use Rattle.hash_cuts.proofs.CutLemmas.{first_cut-is}
use Rattle.hash_cuts.proofs.GivenLemmas.{gives-more, gives-refused}
use Rattle.streams.proofs.StreamLemmas.{on_err}
use Rattle.hash_cuts.proofs.reader.give_first.Goals.{else-loop-given-test, then-loop-given-test+then-n-rest+then-n-most}
use Rattle.hash_cuts.proofs.reader.give_first.Goals as goal

-- the bytes from a place on
rest-is : (bytes : List ℕ) (given : ℕ) → take (length bytes - given) (drop given bytes) ≡ drop given bytes
rest-is bytes given = take_all (length bytes - given) (drop given bytes) (omega (arith, length-drop given bytes))

pub loop-given-preserved : goal.loop-given-preserved
loop-given-preserved g c =
    let cuts = c.args.cuts.now in
    let sizes = c.most-most.ensures.sizes in
    let bytes = c.args.bytes.now in
    let given = c.loop-given.given in
    let n = c.first_cut-n.result in
    let rest = drop given bytes in
    let is : n ≡ first_cut cuts rest = rw (rest-is bytes given) at c.first_cut-n.ensures.cut in
    let some : 0 < length rest = omega (arith, length-drop given bytes, c.loop-given-test.true) in
    let ends : (first_cut cuts rest < length rest) ⊎ (first_cut cuts rest ≡ cuts.most) =
    grind (arith, nat_tests, common_steps, first_cut-is, first_cut-le, rest-is) in
    record {
      gives = rw (← drop-drop n given bytes, is)
          (gives-more c.loop-given.invariant.gives sizes some ends (rw (rest-is bytes given, is) at c.in_ok-take.ensures.ok));
      within = omega (arith, is, first_cut-le cuts sizes rest, length-drop given bytes, c.loop-given.invariant.within);
    }

pub returns-clause-rest : goal.returns-clause-rest
returns-clause-rest g c = grind (arith, nat_tests, common_steps, first_cut-le, length-drop, rest-is)

pub returns-in_err-take-clause-some : goal.returns-in_err-take-clause-some
returns-in_err-take-clause-some g c = grind (arith, nat_tests, common_steps, rest-is, on_err, length-drop, gives-refused)
