use Rattle.hash_theorems.proofs.BlockCommon.{ℕ, ◌≢◌, ◌^◌, ◌<◌, [], ◌∷◌, OnTrue_at, OnTrue_from, murmur3_128}
use Rattle.hash_theorems.proofs.blocks.murmur3.apart_by_block_murmur3_128.Goals as goal

pub returns-clause-differ : goal.returns-clause-differ
returns-clause-differ c =
    OnTrue_from c.apart_by_rule.result ((seed : ℕ) → seed < 2 ^ 64 → murmur3_128 seed c.args.x.now ≢ murmur3_128 seed c.args.y.now)
    (λ yes seed seed_in. OnTrue_at yes c.apart_by_rule.ensures.differ (seed ∷ []) seed_in)
