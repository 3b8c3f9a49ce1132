use Rattle.hash_theorems.proofs.JenkinsCommon.{fold-append}
use Rattle.hash_theorems.proofs.ShortStretches.{f}
use Rattle.hash_theorems.proofs.jenkins.stretch.un_add_chunks.Goals as goal

-- the last of the chunks that are left is taken out
pub loop-chunk-preserved : goal.loop-chunk-preserved
loop-chunk-preserved c x led =
    c.loop-chunk.invariant x (rw (c.in-Some.ensures.steps, fold-append f x _ _, led) (rw c.le_words.ensures at c.un_add_chunk.ensures))
