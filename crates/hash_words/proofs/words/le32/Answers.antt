use Rattle.hash_words.proofs.Common.{arith}
use Rattle.hash_words.proofs.WordLemmas.{le_by_places}
use Rattle.hash_words.proofs.words.le32.Goals as goal

pub returns-in-empty : goal.returns-in-empty
returns-in-empty c = omega (arith, le_by_places 0 c.args.bytes.now (omega arith))

pub returns-in-len1 : goal.returns-in-len1
returns-in-len1 c = omega (arith, c.from.ensures, le_by_places 1 c.args.bytes.now (omega arith))

pub returns-in-len2 : goal.returns-in-len2
returns-in-len2 c = omega (arith, c.from-in-len2.ensures, c.from-in-len2-2.ensures, le_by_places 2 c.args.bytes.now (omega arith))

pub returns-in-len3 : goal.returns-in-len3
returns-in-len3 c =
    let bytes = le_by_places 3 c.args.bytes.now (omega arith) in
    omega (arith, c.from-in-len3.ensures, c.from-in-len3-2.ensures, c.from-in-len3-3.ensures, bytes)

pub returns-in-len4-up : goal.returns-in-len4-up
returns-in-len4-up c = omega (arith, c.from_le_bytes.ensures, le_by_places 4 c.args.bytes.now (omega arith))
