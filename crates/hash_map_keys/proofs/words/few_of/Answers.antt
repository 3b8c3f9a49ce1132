use Rattle.hash_map_keys.proofs.Common.{arith, le_by_places}
use Rattle.hash_map_keys.proofs.words.few_of.Goals as goal

pub returns-in-empty-clause-value : goal.returns-in-empty-clause-value
returns-in-empty-clause-value c = omega (arith, le_by_places 0 c.args.bytes.now (omega arith))

pub returns-in-len1-clause-value : goal.returns-in-len1-clause-value
returns-in-len1-clause-value c = omega (arith, c.from.ensures, le_by_places 1 c.args.bytes.now (omega arith))

pub returns-in-len2-clause-value : goal.returns-in-len2-clause-value
returns-in-len2-clause-value c = omega (arith, c.from-in-len2.ensures, c.from_le_bytes.ensures, le_by_places 2 c.args.bytes.now (omega arith))

pub returns-in-len3-up-clause-value : goal.returns-in-len3-up-clause-value
returns-in-len3-up-clause-value c = omega (arith, c.from-in-len3-up.ensures, c.from_le_bytes-in-len3-up.ensures, le_by_places 3 c.args.bytes.now (omega arith))
