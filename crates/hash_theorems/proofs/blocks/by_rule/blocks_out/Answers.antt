use Rattle.hash_theorems.proofs.BlockCommon.{arith}
use Rattle.hash_theorems.proofs.blocks.by_rule.blocks_out.Goals as goal

pub as_chunks-requires : goal.as_chunks-requires
as_chunks-requires g c = (omega (arith, g.met.R.BlockRule.fits), g.met.R.BlockRule.some)
