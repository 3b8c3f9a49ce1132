use Rattle.hash_theorems.proofs.FxCommon.{rotl}
use Rattle.hash_theorems.proofs.LowBits.{low_of_step}
use Rattle.hash_theorems.proofs.fx.pieces.low_bits_of_a_word.Goals as goal

pub returns : goal.returns
returns c = record {
  at_64 = λ k h v u within same. low_of_step 64 k (rotl 64 h 5) 0x517cc1b727220a95 v u within same;
  at_32 = λ k h v u within same. low_of_step 32 k (rotl 32 h 5) 0x27220a95 v u within same;
}
