use Rattle.hash_keyed.proofs.Common.{◌≡◌, ◌<◌, length, after, full_words}
use Rattle.hash_keyed.proofs.words.by_words.Given as goal

abbrev pub invariant-loop-block : goal.invariant-loop-block
invariant-loop-block l = record {
  small : l.state < 4611686018427387904;
  in_range : l.fn.start < 2305843009213693960 → l.state < 2305843009213693960;
  there : after (full_words l.key l.state) l.rest ≡ after (full_words l.key l.fn.start) l.fn.bytes;
}

abbrev pub decreases-loop-block : goal.decreases-loop-block
decreases-loop-block l = length l.rest
