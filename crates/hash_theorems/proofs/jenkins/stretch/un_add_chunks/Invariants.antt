use Rattle.hash_theorems.proofs.JenkinsCommon.{◌≡◌, List, ℕ, fold, add_chunk, le_words, chunks_from}
use Rattle.std.specs.Iterator.Adapters.{rev_source}
use Rattle.std.specs.Slice.Iter.{iter_rest}
use Rattle.hash_theorems.proofs.jenkins.stretch.un_add_chunks.Given as goal

-- what leads here through the chunks that are left leads to the old words through all
abbrev pub invariant-loop-chunk : goal.invariant-loop-chunk
invariant-loop-chunk l =
    (x : List ℕ) → fold (λ h chunk. add_chunk h (le_words chunk)) x (iter_rest (rev_source l.chunk-iterator)) ≡ l.h
    → chunks_from x l.text ≡ l.initial.h
