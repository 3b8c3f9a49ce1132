use Rattle.std.proofs.Common.{ap, sym, ◌∙◌}
use Rattle.hash_laws.specs.Recurrence.{recurrence}
use Rattle.hash_laws.proofs.rules.plain_rule.PlainByteRule.whole.Goals as goal

pub returns : goal.returns
returns g c =
    c.whole_text.ensures
    ∙ ap (λ n. g.R.PlainRule.answer (recurrence g.R.PlainRule.step n c.args.text.now))
    (sym (g.R.Word.Word.number_of_word g.R.PlainRule.start))
