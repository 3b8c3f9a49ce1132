use Rattle.hashers.proofs.PairCounts.{apart_by_buckets, one_in_bucket}
use Rattle.hashers.proofs.counts.one_in_each_bucket.Goals as goal

pub returns : goal.returns
returns c = λ m hashes some. (apart_by_buckets m hashes some, λ differ b below. one_in_bucket m b hashes differ)
