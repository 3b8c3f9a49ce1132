use Rattle.hash_theorems.proofs.BlockCommon.{ℕ, ◌≢◌, ◌^◌, ◌<◌, arith, OnTrue_from, IsText-from_slice, xxh32}
use Rattle.hash_theorems.proofs.Words32.{DifferInOneWord-at, word-differs}
use Rattle.hash_theorems.proofs.blocks.xxhash.apart_by_word_xxh32.Goals as goal

pub returns-then-x-from-ge4-clause-exactly : goal.returns-then-x-from-ge4-clause-exactly
returns-then-x-from-ge4-clause-exactly c = (
  λ yes. DifferInOneWord-at c.args.x.now c.args.y.now c.in-Some.from c.in-Some.ensures.some (c.differ_in_one_block.ensures.0 yes)
      (omega (arith, c.if-x-from-ge4.true)),
  λ one. c.differ_in_one_block.ensures.1 one.differ,
)

pub returns-then-x-from-ge4-clause-differ : goal.returns-then-x-from-ge4-clause-differ
returns-then-x-from-ge4-clause-differ c =
    OnTrue_from c.differ_in_one_block.result ((seed : ℕ) → seed < 2 ^ 32 → xxh32 seed c.args.x.now ≢ xxh32 seed c.args.y.now)
    (λ yes seed seed_in. word-differs seed c.args.x.now c.args.y.now seed_in (IsText-from_slice c.args.x.now c.type_inv.x)
    (IsText-from_slice c.args.y.now c.type_inv.y) ((returns-then-x-from-ge4-clause-exactly c).0 yes))
