-- What passes once bits are added.
use Rattle.hash_bloom.proofs.Common.{ℕ, ◌≡◌, ◌↔◌, ◌<◌, List, length, subst, inl, inr, arith, Filter, IsFilter, IsSet, HasBit, IsProbe, IsCovered, Passes, AllPassIn, Fits, Adds, common_steps, nat_tests}

-- a filter with bits of its own added is a filter
pub added_is_filter : (old new : Filter) (more : ℕ → Type 0) → IsFilter old → Adds old new more → ((i : ℕ) → more i → i < old.bits)
    → length new.words ≡ length old.words → IsFilter new
added_is_filter old new more is adds below same = grind (arith, nat_tests, common_steps)

-- two joined filters are a filter
pub joined_is_filter : (old other new : Filter) → IsFilter old → IsFilter other → Fits old other
    → Adds old new (IsSet other)
    → length new.words ≡ length old.words → IsFilter new
joined_is_filter old other new is is_other fits adds same = grind (arith, nat_tests, common_steps, added_is_filter)

module _ (f g : List ℕ → ℕ) where
  -- the probes of a key are bits of the filter
  pub probe_below : (filter : Filter) (key : List ℕ) → IsFilter filter → (j : ℕ) → IsProbe f g filter key j → j < filter.bits
  probe_below filter key is j probe = grind (arith, nat_tests, common_steps)

  -- a key is found exactly where its probes were set or are added
  pub found_exactly : (old new : Filter) (more : ℕ → Type 0) (key : List ℕ) → Adds old new more
      → Passes f g new key ↔ IsCovered f g old key more
  found_exactly old new more key adds = grind (arith, nat_tests, common_steps)

  -- what another filter of as many bits and probes finds is covered by its bits
  pub covered_by : (old other : Filter) (key : List ℕ) → Fits old other → Passes f g other key → IsCovered f g old key (IsSet other)
  covered_by old other key fits found j probe = grind (arith, nat_tests, common_steps)

  -- all that passed still do
  pub passes_still : (old new : Filter) (more : ℕ → Type 0) → Adds old new more → AllPassIn f g old new
  passes_still old new more adds key passed =
      (found_exactly old new more key adds).1 (λ j probe. inl (subst (HasBit old.words) probe.2 (passed probe.0 probe.1)))

  -- a key passes whose probes are added
  pub passes_added : (old new : Filter) (more : ℕ → Type 0) (key : List ℕ) → Adds old new more
      → ((j : ℕ) → IsProbe f g old key j → more j) → Passes f g new key
  passes_added old new more key adds probes = (found_exactly old new more key adds).1 (λ j probe. inr (probes j probe))

  -- all that passed in the other of two joined filters do
  pub passes_joined : (old other new : Filter) → Fits old other → Adds old new (IsSet other) → AllPassIn f g other new
  passes_joined old other new fits adds key passed =
      (found_exactly old new (IsSet other) key adds).1 (covered_by old other key fits passed)
