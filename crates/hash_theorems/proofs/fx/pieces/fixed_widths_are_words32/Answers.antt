use Rattle.hash_theorems.proofs.FxCommon.{fx32_step, words32-byte, words32-four, of_byte, of_two, fx32_of_four, fx32_of_eight, le_bytes, pieces, common_steps, nat_tests, arith}
use Rattle.hash_theorems.proofs.fx.pieces.fixed_widths_are_words32.Goals as goal

pub returns : goal.returns
unfolding pieces le_bytes
returns c = grind (arith, nat_tests, common_steps, words32-byte, words32-four, of_byte, fx32_step, of_two, fx32_of_four, fx32_of_eight)
