use Rattle.hash_cuts.proofs.Common.{arith, nat_tests, common_steps}
use Rattle.hash_cuts.proofs.InStep.{chunks-joined, chunks-least, chunks-most}
use Rattle.hash_cuts.proofs.laws.chunks_are_the_text.Goals as goal

pub returns : goal.returns
returns c = grind (arith, nat_tests, common_steps, chunks-joined, chunks-most, chunks-least)
