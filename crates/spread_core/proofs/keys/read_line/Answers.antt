use Rattle.spread_core.proofs.Common.{◌∙◌, ap, ends_with_byte, strip_last, with_text}
use Rattle.spread_core.proofs.KeyLemmas.{takes_line, takes_nothing}
use Rattle.spread_core.proofs.keys.read_line.Goals as goal

pub returns-in-Ok-false : goal.returns-in-Ok-false
returns-in-Ok-false g c = takes_nothing c.args.eol c.args.keys.now.texts _ _ (c.in-Ok-false.ensures.none c.in-Ok-false.field-0-test)

pub returns : goal.returns
returns g c =
    let eol = c.args.eol in
    let line = c.next_line.new.line.items in
    takes_line eol c.args.keys.now.texts c.take_key.new.keys.texts _ _ line (c.in-Ok-true.ensures.some c.in-Ok-true.field-0-test)
    (c.in_ok-take_key.ensures
    ∙ ap (with_text c.args.keys.now.texts) (c.without_end.ensures ∙ ap (strip_last eol) c.deref.ensures.value))
    c.has_end.result (c.has_end.ensures ∙ ap (ends_with_byte eol) c.deref-2.ensures.value)
