use Rattle.hash_theorems.proofs.FxCommon.{fx64_step, words64-byte, words64-four, words64-eight, of_byte, of_two, fx64_of_four, fx64_of_eight, le_bytes, pieces, rules}
use Rattle.hash_theorems.proofs.fx.pieces.fixed_widths_are_words64.Goals as goal

pub returns : goal.returns
unfolding pieces le_bytes
returns c = search (rules, words64-byte, words64-four, words64-eight, of_byte, fx64_step, of_two, fx64_of_four, fx64_of_eight)
