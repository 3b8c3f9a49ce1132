use Rattle.hash_cuts.proofs.InStep.{before-stay}
use Rattle.hash_cuts.proofs.laws.chunks_before_stay.Goals as goal

pub returns : goal.returns
returns c = λ cuts x old new xs others sizes are some joined. before-stay cuts sizes xs x old new others are some joined
