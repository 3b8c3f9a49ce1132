use Rattle.hash_theorems.proofs.BlockCommon.{ℕ, ◌≢◌, OnTrue_from, IsText-from_slice, xxh64}
use Rattle.hash_theorems.proofs.Words64.{DifferInOneLastWord-at, last_word-differs}
use Rattle.hash_theorems.proofs.blocks.xxhash.apart_by_word_xxh64.Goals as goal

pub returns-then-in_last_word-clause-exactly : goal.returns-then-in_last_word-clause-exactly
returns-then-in_last_word-clause-exactly c =
    let told = c.in_last_word.ensures.0 c.if-in_last_word.true in (
      λ yes. DifferInOneLastWord-at c.args.x.now c.args.y.now c.in-Some.from c.in-Some.ensures.some (c.differ_in_one_block.ensures.0 yes)
          told.0 told.1,
      λ last. c.differ_in_one_block.ensures.1 last.differ,
    )

pub returns-then-in_last_word-clause-differ : goal.returns-then-in_last_word-clause-differ
returns-then-in_last_word-clause-differ c =
    OnTrue_from c.differ_in_one_block.result ((seed : ℕ) → xxh64 seed c.args.x.now ≢ xxh64 seed c.args.y.now) (λ yes seed.
    last_word-differs seed c.args.x.now c.args.y.now (IsText-from_slice c.args.x.now c.type_inv.x)
    (IsText-from_slice c.args.y.now c.type_inv.y) ((returns-then-in_last_word-clause-exactly c).0 yes))
