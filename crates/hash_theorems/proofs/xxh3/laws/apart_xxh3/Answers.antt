use Rattle.hash_theorems.proofs.Xxh3Common.{rules, xxh3_64_of}
use Rattle.hash_theorems.proofs.ShortLemmas.{few_bytes_same, eight_bytes_same}
use Rattle.hash_theorems.proofs.xxh3.laws.apart_xxh3.Goals as goal

pub returns-in-1-to-3-1-to-3-clause-differ : goal.returns-in-1-to-3-1-to-3-clause-differ
returns-in-1-to-3-1-to-3-clause-differ c = search (rules, xxh3_64_of, few_bytes_same)

pub returns-then-len-x-clause-differ : goal.returns-then-len-x-clause-differ
returns-then-len-x-clause-differ c = search (rules, xxh3_64_of, eight_bytes_same)
