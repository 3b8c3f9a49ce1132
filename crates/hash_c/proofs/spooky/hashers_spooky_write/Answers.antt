use Rattle.hash_jenkins.specs.SpookyLaws.{after_from}
use Rattle.hash_c.proofs.spooky.hashers_spooky_write.Goals as goal

pub returns-then-is_usable-clause-of_text : goal.returns-then-is_usable-clause-of_text
returns-then-is_usable-clause-of_text c = λ seed1 seed2 text state. record {
  marked = state.marked;
  settled = c.write.ensures.settled state.settled;
  there = after_from _ _ c.args.bytes.now (c.write.ensures.position state.settled) seed1 seed2 text state.there;
}
