use Rattle.hash_theorems.proofs.RangeLemmas.{murmur3_below, spooky_below, spooky_v1_below, xxh128_below}
use Rattle.hash_theorems.proofs.ranges.wide_hashes_are_two_words.Goals as goal

pub returns-clause-xxh3 : goal.returns-clause-xxh3
returns-clause-xxh3 c = xxh128_below

pub returns-clause-murmur3 : goal.returns-clause-murmur3
returns-clause-murmur3 c = murmur3_below

pub returns-clause-spooky : goal.returns-clause-spooky
returns-clause-spooky c = spooky_below

pub returns-clause-spooky_v1 : goal.returns-clause-spooky_v1
returns-clause-spooky_v1 c = spooky_v1_below
