use Rattle.text_set.proofs.Common.{arith, nat_tests, read_short}
use Rattle.text_set.proofs.keyed.read_short.Goals as goal

pub returns-then-len-ge4 : goal.returns-then-len-ge4
unfolding read_short
returns-then-len-ge4 c = grind (arith, nat_tests, c.read_u32.ensures, c.read_u32-then-len-ge4.ensures)

pub returns-then-len-gt0 : goal.returns-then-len-gt0
unfolding read_short
returns-then-len-gt0 c = grind (arith, nat_tests)

pub returns-else-len-gt0 : goal.returns-else-len-gt0
unfolding read_short
returns-else-len-gt0 c = grind (arith, nat_tests)
