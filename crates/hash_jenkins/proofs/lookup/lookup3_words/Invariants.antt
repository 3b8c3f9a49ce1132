use Rattle.hash_jenkins.proofs.Common.{◌≡◌, length}
use Rattle.hash_jenkins.proofs.Lookup3Lemmas.{blocks_in}
use Rattle.hash_jenkins.proofs.lookup.lookup3_words.Given as goal

abbrev pub invariant-loop-block : goal.invariant-loop-block
invariant-loop-block l = blocks_in l.s l.rest ≡ blocks_in l.initial.s l.piece

abbrev pub decreases-loop-block : goal.decreases-loop-block
decreases-loop-block l = length l.rest
