use Rattle.hash_jenkins.proofs.Common.{refl, rules}
use Rattle.hash_jenkins.proofs.Lookup3Lemmas.{words_of_few, added_filled, drop_eight}
use Rattle.hash_jenkins.proofs.lookup.add_rest.Goals as goal

pub returns-in-None : goal.returns-in-None
returns-in-None c =
    let few = words_of_few c.args.rest.now c.in-None.ensures.cases in
    added_filled 12 _ _ c.args.rest.now (c.le_few.result, 0, 0) c.add_words.ensures (rw (c.le_few.ensures, few.0, few.1, few.2) refl)

pub returns-in-None-split_first_chunk : goal.returns-in-None-split_first_chunk
returns-in-None-split_first_chunk c =
    let parts = c.in-Some.ensures.cases in
    let few = words_of_few c.in-Some.more.now c.in-None-split_first_chunk.ensures.cases in
    added_filled 12 _ _ c.args.rest.now (c.le_four.result, c.le_few-in-None-split_first_chunk.result, 0)
    c.add_words-in-None-split_first_chunk.ensures
    (rw (c.le_four.ensures, c.le_few-in-None-split_first_chunk.ensures, ← drop_eight c.args.rest.now, parts.0, ← parts.1, few.0, few.1)
    refl)

pub returns-in-Some-split_first_chunk : goal.returns-in-Some-split_first_chunk
returns-in-Some-split_first_chunk c =
    added_filled 12 _ _ c.args.rest.now (
      c.le_four-in-Some-split_first_chunk.result,
      c.le_four-in-Some-split_first_chunk-2.result,
      c.le_few-in-Some-split_first_chunk.result,
    )
    c.add_words-in-Some-split_first_chunk.ensures (search rules)
