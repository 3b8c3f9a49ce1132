use Rattle.hash_jenkins.proofs.Common.{arith, common_steps, after_from}
use Rattle.hash_jenkins.proofs.spooky_hash.SpookyHasherHasher.write.Goals as goal

pub returns-clause-stands : goal.returns-clause-stands
returns-clause-stands c = after_from c.args.self.now.at _ c.args.bytes.now (grind (arith, common_steps))
