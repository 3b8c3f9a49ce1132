use Rattle.hash_bytes.proofs.Common.{◌^◌, lit<, mod_below, sdbm_from}
use Rattle.hash_bytes.proofs.oz.sdbm.Goals as goal

pub returns-clause-below : goal.returns-clause-below
unfolding sdbm_from
returns-clause-below c = rw c.hash_by_rule.ensures.value (mod_below _ (2 ^ 32) (lit< tt))
