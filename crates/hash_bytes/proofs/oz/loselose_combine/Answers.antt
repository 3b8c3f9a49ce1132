use Rattle.hash_bytes.proofs.Common.{sym}
use Rattle.hash_bytes.proofs.Joined.{loselose_joined}
use Rattle.hash_bytes.proofs.oz.loselose_combine.Goals as goal

pub returns-clause-joined : goal.returns-clause-joined
returns-clause-joined c = λ x y first second. rw (first, second) (sym (loselose_joined x y))
