use Rattle.hash_rounds.proofs.ShuffleLemmas.{bit_at-exchange}
use Rattle.hash_rounds.proofs.shuffle.exchange.Goals as goal

pub overflow_shr-moved : goal.overflow_shr-moved
overflow_shr-moved c = c.requires.within

pub overflow_shl-result : goal.overflow_shl-result
overflow_shl-result c = c.requires.within

pub returns : goal.returns
returns c = bit_at-exchange c.args.x c.args.mask c.args.k c.requires.apart
