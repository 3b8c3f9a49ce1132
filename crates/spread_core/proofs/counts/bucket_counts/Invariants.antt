use Rattle.spread_core.proofs.Common.{ℕ, ◌≡◌, ◌<◌, get_or, length, take, in_bucket}
use Rattle.spread_core.proofs.counts.bucket_counts.Given as goal

-- each bucket has what fell into it so far
abbrev pub invariant-loop-hash : goal.invariant-loop-hash
invariant-loop-hash l = record {
  len : length l.counts.items ≡ l.buckets;
  each : (b : ℕ) → b < l.buckets → get_or l.counts.items b 0 ≡ in_bucket l.buckets b (take l.hash-index l.hashes);
}
