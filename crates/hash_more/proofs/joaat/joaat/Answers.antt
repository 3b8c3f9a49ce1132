use Rattle.hash_more.specs.Joaat.{joaat_from}
use Rattle.hash_more.specs.JoaatLaws.{joaat_answer_below}
use Rattle.hash_more.proofs.joaat.joaat.Goals as goal

pub returns-clause-below : goal.returns-clause-below
returns-clause-below c = rw c.hash_by_plain.ensures.value (joaat_answer_below (joaat_from 0 c.args.bytes.now))
