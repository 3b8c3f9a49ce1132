use Rattle.dedup_core.proofs.Lemmas.{lines_of_whole}
use Rattle.dedup_core.proofs.laws.lines_of_whole_inputs.Goals as goal

pub returns : goal.returns
returns c = lines_of_whole
