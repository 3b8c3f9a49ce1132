use Rattle.hash_bytes.proofs.Common.{refl}
use Rattle.hash_laws.specs.Recurrence.{recurrence}
use Rattle.hash_bytes.proofs.fnv.origin_of_constants.Goals as goal

pub returns-clause-basis_32 : goal.returns-clause-basis_32
unfolding recurrence
returns-clause-basis_32 c = refl

pub returns-clause-basis_64 : goal.returns-clause-basis_64
unfolding recurrence
returns-clause-basis_64 c = refl
