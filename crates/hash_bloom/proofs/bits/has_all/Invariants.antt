use Rattle.hash_bloom.proofs.Lemmas.{◌≡◌, HasAll, place, probe_hash, step_of}
use Rattle.hash_bloom.proofs.bits.has_all.Given as goal

abbrev pub invariant-loop-i : goal.invariant-loop-i
invariant-loop-i l = record {
  hash : l.hash ≡ probe_hash l.first l.second l.i;
  step : l.step ≡ step_of l.second l.i;
  all : HasAll l.words (place l.bits l.first l.second) l.i;
}
