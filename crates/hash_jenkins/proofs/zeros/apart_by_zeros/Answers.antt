use Rattle.hash_jenkins.proofs.Common.{arith}
use Rattle.std.proofs.lemmas.Bool.{OnTrue_from}
use Rattle.hash_jenkins.proofs.ZeroLemmas.{other_words}
use Rattle.hash_jenkins.proofs.zeros.apart_by_zeros.Goals as goal

pub returns-clause-differ : goal.returns-clause-differ
returns-clause-differ c =
    OnTrue_from _ _ (λ r. other_words c.args.x.now c.args.y.now (omega arith, omega arith, c.is_filled.ensures.0 r))
