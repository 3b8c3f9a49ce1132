use Rattle.hash_writes.proofs.Common.{◌∙◌, ap, refl}
use Rattle.hash_writes.proofs.KeyLemmas.{fold-concat, state_after_writes}
use Rattle.hash_writes.proofs.build.feed_key.Goals as goal

pub returns : goal.returns
returns g c = λ texts known.
    let H = g.H.Piecewise in
    let laws = g.met.H.Piecewise in
    ap H.state c.hash.ensures
    ∙ state_after_writes g.H.Hasher.write H.state H.after laws.write_feeds c.args.h.now (H.state c.args.h.now)
    (g.K.Hash.hash_input c.args.key) refl
    ∙ fold-concat H.in_range H.after laws.after_in_range laws.after_nothing g.met.H.Streamed.after_joined (H.state c.args.h.now)
    _ known texts
