use Rattle.hashsum_core.proofs.NameLemmas.{name_found}
use Rattle.hashsum_core.proofs.laws.each_name_is_found.Goals as goal

pub returns : goal.returns
returns c = name_found
