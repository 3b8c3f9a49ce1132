use Rattle.text_set.proofs.Common.{rules}
use Rattle.text_set.proofs.SetLemmas.{has_there}
use Rattle.text_set.proofs.SlotLemmas.{with_old}
use Rattle.text_set.proofs.texts.Texts.see_at.Goals as goal

pub returns-then-eq : goal.returns-then-eq
returns-then-eq g c = search (rules, has_there, with_old)
