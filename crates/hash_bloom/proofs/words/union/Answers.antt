use Rattle.hash_bloom.proofs.Common.{common_steps, nat_tests}
use Rattle.hash_bloom.proofs.Lemmas.{arith, refl, cases_lt, get_or_past, passes_still, passes_joined, united}
use Rattle.hash_bloom.proofs.words.union.Goals as goal

pub returns-clause-united : goal.returns-clause-united
returns-clause-united c = λ bits probes. record {
  shape = (refl, refl);
  set = united _ _ _ (λ k. grind (arith, nat_tests, common_steps, get_or_past, cases_lt));
}

pub returns-clause-kept : goal.returns-clause-kept
returns-clause-kept c = λ f g bits probes. passes_still f g _ _ _ (returns-clause-united c bits probes)

pub returns-clause-taken : goal.returns-clause-taken
returns-clause-taken c = λ f g bits probes. passes_joined f g _ _ _ (refl, refl) (returns-clause-united c bits probes)
