use Rattle.hash_c.proofs.Common.{refl, ◌^◌}
use Rattle.hash_c.proofs.parts.hashers_sdbm_unwrite.Goals as goal

-- the result is below 2^32, since some state answers it
pub returns-clause-back : goal.returns-clause-back
returns-clause-back c =
    c.unwritten.ensures.back _ (c.unwritten.ensures.reached (2 ^ 32) (λ s known. known)) refl
