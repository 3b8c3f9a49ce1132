use Rattle.hash_jenkins.proofs.Common.{arith}
use Rattle.hash_words.proofs.WordLemmas.{le_by_places}
use Rattle.hash_jenkins.proofs.lookup.le_few.Goals as goal

pub returns-in-empty : goal.returns-in-empty
returns-in-empty c = omega (arith, le_by_places 0 c.args.bytes.now (omega arith))

pub returns-in-len1 : goal.returns-in-len1
returns-in-len1 c = omega (arith, c.from.ensures, le_by_places 1 c.args.bytes.now (omega arith))

pub returns-in-len2 : goal.returns-in-len2
returns-in-len2 c = omega (arith, le_by_places 2 c.args.bytes.now (omega arith))

pub returns-in-len3-up : goal.returns-in-len3-up
returns-in-len3-up c = omega (arith, le_by_places 3 c.args.bytes.now (omega arith))
