use Rattle.text_set.proofs.Common.{arith, elements, read_u32, read_u64}
use Rattle.text_set.proofs.keyed.read_u64.Goals as goal

pub returns : goal.returns
unfolding read_u64 read_u32
returns c = grind (arith, elements, c.read_u32.ensures, c.read_u32-2.ensures)
