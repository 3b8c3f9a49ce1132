use Rattle.hashsum_core.proofs.AskedLemmas.{any_one}
use Rattle.hashsum_core.proofs.laws.lines_of_one_hash.Goals as goal

pub returns : goal.returns
returns c = any_one
