use Rattle.hash_keyed.proofs.Lemmas.{sym, arith, eight_more, seven_more}
use Rattle.hash_keyed.proofs.words.by_words.Goals as goal

pub loop-block-preserved : goal.loop-block-preserved
loop-block-preserved c =
    let cut = c.in-Some.ensures.cases in
    record {
      small = omega (arith, c.step-state.ensures.small);
      in_range = λ start_in. c.step-state.ensures.small;
      there = eight_more c.args.key c.loop-block.state c.step-state.result c.seven_of.result c.loop-block.rest.now c.in-Some.block.now
          c.split_at.result.1.now _ cut.0 c.split_at.ensures.back (omega (arith, cut.2)) c.seven_of.ensures.value
          c.step-state.ensures.same c.loop-block.invariant.there;
    }

pub returns-in-Some-split_first_chunk-clause-there : goal.returns-in-Some-split_first_chunk-clause-there
returns-in-Some-split_first_chunk-clause-there c =
    let cut = c.in-Some-split_first_chunk.ensures.cases in
    sym (seven_more c.args.key c.loop-block.state c.step.result c.seven.result c.loop-block.rest.now c.in-Some-split_first_chunk.word.now
    c.in-Some-split_first_chunk.more.now _ cut.0 cut.1 cut.2 c.seven.ensures.value c.step.ensures.same c.loop-block.invariant.there)
