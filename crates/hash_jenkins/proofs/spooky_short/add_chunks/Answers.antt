use Rattle.hash_jenkins.proofs.Common.{◌∙◌, [], ap₂, sym, le_words, add_chunk}
use Rattle.std.proofs.lemmas.List.Sums.{fold_more}
use Rattle.hash_jenkins.proofs.spooky_short.add_chunks.Goals as goal

pub loop-chunk-preserved : goal.loop-chunk-preserved
loop-chunk-preserved c =
    c.add_chunk.ensures ∙ ap₂ add_chunk c.loop-chunk.invariant c.le_words.ensures
    ∙ sym (fold_more (λ h chunk. add_chunk h (le_words chunk)) _ _ _ [] c.loop-chunk-test.true)
