use Rattle.hashers.proofs.Common.{◌∙◌, ap, sym, written}
use Rattle.hash_writes.proofs.WriteLemmas.{fold-joined}
use Rattle.hashers.proofs.promises.there_and_back_joined.Goals as goal

pub returns-clause-there : goal.returns-clause-there
returns-clause-there g c =
    let H = g.H.Piecewise in
    let laws = g.met.H.Piecewise in
    let led = c.there_and_back.ensures in
    led.there ∙ ap H.answer (fold-joined written H.in_range H.after laws.after_in_range laws.after_nothing g.met.H.Streamed.after_joined
    _ c.args.writes.now led.in_range led.texts)

pub returns-clause-back : goal.returns-clause-back
returns-clause-back g c =
    let H = g.H.Piecewise in
    let laws = g.met.H.Piecewise in
    let led = c.there_and_back.ensures in
    let joined = fold-joined written H.in_range H.after laws.after_in_range laws.after_nothing g.met.H.Streamed.after_joined
    led.back.0 c.args.writes.now led.back.1 led.texts in
    (led.back.0, led.back.1, sym joined ∙ led.back.2, led.back.3)
