use Rattle.hash_bloom.proofs.Lemmas.{ℕ, ◌≡◌, ◌↔◌, ◌⊎◌, IsTrue, HasBit, HasAll, IsAmong, place, probe_hash, step_of}
use Rattle.hash_bloom.proofs.bits.set_all.Given as goal

abbrev pub invariant-loop-i : goal.invariant-loop-i
invariant-loop-i l =
    let places = place l.bits l.first l.second in
    record {
      hash : l.hash ≡ probe_hash l.first l.second l.i;
      step : l.step ≡ step_of l.second l.i;
      set : (j : ℕ) → HasBit l.words j ↔ (HasBit l.initial.words j ⊎ IsAmong places l.i j);
      before : IsTrue l.before ↔ HasAll l.initial.words places l.i;
    }
