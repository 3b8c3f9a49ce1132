use Rattle.hash_theorems.proofs.Xxh3Common.{rules}
use Rattle.hash_theorems.proofs.WideLemmas.{short_same}
use Rattle.hash_theorems.proofs.xxh3.laws.apart_xxh128.Goals as goal

pub returns-then-x-y-clause-differ : goal.returns-then-x-y-clause-differ
returns-then-x-y-clause-differ c = search (rules, short_same)
