use Rattle.text_set.proofs.Common.{arith, elements, read_u32}
use Rattle.text_set.proofs.keyed.read_u32.Goals as goal

pub returns : goal.returns
unfolding read_u32
returns c = grind (arith, elements, c.from_le_bytes.ensures)
