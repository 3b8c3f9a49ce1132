use Rattle.spread_core.proofs.Common.{[], arith, All-from_get_or, IsText}
use Rattle.spread_core.proofs.NamedLemmas.{hashed_all}
use Rattle.spread_core.proofs.named.hash_each.Goals as goal

pub returns-clause-hashes : goal.returns-clause-hashes
returns-clause-hashes g c = hashed_all g.H.Piecewise.hash_of c.args.keys.now.texts c.loop-i.hashes (omega arith)
    (λ k below. c.loop-i.invariant.hashed k (omega arith))

pub returns-clause-texts : goal.returns-clause-texts
returns-clause-texts g c = All-from_get_or IsText c.args.keys.now.texts [] (λ k below. c.loop-i.invariant.texts k (omega arith))
