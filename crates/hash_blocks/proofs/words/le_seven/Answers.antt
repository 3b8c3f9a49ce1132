use Rattle.hash_blocks.proofs.Common.{sym, arith, IsText-from_slice}
use Rattle.hash_blocks.proofs.WordLemmas.{le-four, le-seven}
use Rattle.hash_blocks.proofs.words.le_seven.Goals as goal

pub returns-in-Some-clause-value : goal.returns-in-Some-clause-value
returns-in-Some-clause-value c =
    let split = c.in-Some.ensures.cases in
    rw (c.from-in-Some.ensures, c.from-in-Some-2.ensures, c.le_four.ensures, c.le32-in-Some.ensures, split.0, split.1)
    (sym (le-four c.args.bytes.now (omega (arith, split.2))))

pub returns-in-Some-clause-in_range : goal.returns-in-Some-clause-in_range
returns-in-Some-clause-in_range c =
    rw (returns-in-Some-clause-value c) (le-seven c.args.bytes.now (IsText-from_slice c.args.bytes.now c.type_inv.bytes) c.requires)
