use Rattle.hash_writes.proofs.Common.{◌∙◌, ap, sym}
use Rattle.hash_writes.proofs.KeyLemmas.{fold-concat}
use Rattle.hash_writes.proofs.build.hash_one_joined.Goals as goal

pub returns : goal.returns
returns g c = λ texts.
    let H = g.H.Piecewise in
    let laws = g.met.H.Piecewise in
    c.hash_one.ensures.defined
    ∙ ap H.answer (fold-concat H.in_range H.after laws.after_in_range laws.after_nothing g.met.H.Streamed.after_joined H.fresh _
    laws.fresh_in_range texts)
    ∙ sym (laws.hash_of_is _)
