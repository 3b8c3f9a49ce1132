use Rattle.hash_cuts.proofs.JoinedEnds.{ends-joined, ends-moved}
use Rattle.hash_cuts.proofs.laws.ends_of_joined_lists.Goals as goal

pub returns-clause-joined : goal.returns-clause-joined
returns-clause-joined c = ends-joined

pub returns-clause-moved : goal.returns-clause-moved
returns-clause-moved c = ends-moved
