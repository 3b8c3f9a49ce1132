use Rattle.hash_cuts.proofs.Common.{length-set, rules}
use Rattle.hash_cuts.proofs.gear.numbers_of.Goals as goal

pub loop-byte-preserved : goal.loop-byte-preserved
loop-byte-preserved c = search (rules, length-set)
