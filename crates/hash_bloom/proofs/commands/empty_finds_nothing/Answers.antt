use Rattle.hash_bloom.proofs.Common.{false_from_ne_true}
use Rattle.hash_bloom.proofs.commands.empty_finds_nothing.Goals as goal

pub returns : goal.returns
returns g c = false_from_ne_true c.contains.result (λ found. c.in_ok-filter.ensures.none c.args.key.now (c.contains.ensures.0 found))
