use Rattle.hash_jenkins.proofs.ZeroLemmas.{same_by_version_1}
use Rattle.hash_theorems.proofs.jenkins.two_texts.zeros_do_not_show_in_version_1.Goals as goal

pub returns : goal.returns
returns c = same_by_version_1
