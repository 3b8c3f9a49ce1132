use Rattle.hash_jenkins.proofs.Common.{◌≡◌, take, fold, le_words, add_chunk}
use Rattle.hash_jenkins.proofs.spooky_short.add_chunks.Given as goal

abbrev pub invariant-loop-chunk : goal.invariant-loop-chunk
invariant-loop-chunk l =
    l.h ≡ fold (λ h chunk. add_chunk h (le_words chunk)) l.initial.h (take l.chunk-index l.chunks)
