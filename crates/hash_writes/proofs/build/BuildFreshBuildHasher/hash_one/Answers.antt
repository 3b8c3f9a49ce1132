use Rattle.hash_writes.proofs.Common.{◌∙◌, ap}
use Rattle.hash_writes.proofs.KeyLemmas.{state_after_writes}
use Rattle.hash_writes.proofs.build.BuildFreshBuildHasher.hash_one.Goals as goal

pub returns-clause-defined : goal.returns-clause-defined
returns-clause-defined g c =
    let H = g.H.Piecewise in
    c.answer.ensures.value
    ∙ ap H.answer (ap H.state c.hash.ensures ∙ state_after_writes g.H.Hasher.write H.state H.after g.met.H.Piecewise.write_feeds _ _
    (g.T.Hash.hash_input c.args.x) c.fresh-hasher.ensures.state)
