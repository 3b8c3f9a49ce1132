use Rattle.hash_lines.proofs.Common.{nat_tests, common_steps}
use Rattle.hash_lines.proofs.Lemmas.{arith, append_assoc, escape-take}
use Rattle.hash_lines.proofs.escape.push_escaped.Goals as goal

pub loop-byte-preserved : goal.loop-byte-preserved
loop-byte-preserved c = grind (arith, nat_tests, common_steps, append_assoc, escape-take)
