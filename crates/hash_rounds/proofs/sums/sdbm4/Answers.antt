use Rattle.hash_rounds.proofs.Common.{rules}
use Rattle.hash_rounds.proofs.SumLemmas.{sdbm_of_four}
use Rattle.hash_rounds.proofs.sums.sdbm4.Goals as goal

pub returns-clause-value : goal.returns-clause-value
returns-clause-value c = search (rules, sdbm_of_four c.args.h c.args.b.now c.told-b)
