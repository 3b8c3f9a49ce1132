use Rattle.text_set.proofs.Common.{refl, arith, length, mix_blocks, write}
use borrow.Author.Tests.{le-leb}
use Rattle.text_set.proofs.keyed.KeyedHasherHasher.write.Goals as goal

pub returns-then-len-le8 : goal.returns-then-len-le8
unfolding write
returns-then-len-le8 c = rw (c.folded_multiply-self.ensures, c.read_short.ensures, le-leb (length c.args.bytes.now) 8 c.if-len-le8.true)

pub loop-at-init : goal.loop-at-init
unfolding mix_blocks
loop-at-init c = (refl, omega arith, refl)

pub loop-at-preserved : goal.loop-at-preserved
unfolding mix_blocks
loop-at-preserved c = grind arith

pub returns : goal.returns
unfolding write
returns c = grind arith
