use Rattle.hash_cuts.proofs.JoinedEnds.{ends-behind}
use Rattle.hash_cuts.proofs.laws.ends_in_step_again.Goals as goal

pub returns : goal.returns
returns c = ends-behind
