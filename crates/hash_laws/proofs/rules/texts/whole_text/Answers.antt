use Rattle.std.proofs.Common.{ap, sym, ◌∙◌, take, drop, take-append-drop}
use Rattle.hash_laws.specs.Recurrence.{recurrence}
use Rattle.hash_laws.specs.RecurrenceLaws.{recurrence-append}
use Rattle.hash_laws.proofs.rules.texts.whole_text.Goals as goal
use Rattle.hash_laws.proofs.rules.texts.whole_text.Goals.{in-None, in-Some}

pub returns : goal.returns
returns g c =
    let text = c.args.text.now in
    let number = g.R.Word.Word.number in
    let from = recurrence g.R.PlainRule.step in
    elim c.match-split_first_chunk.branch [
      | in-None w ↦
          let all = w.in_turn.ensures ∙ ap (λ s. from s text) c.start-word.ensures in
          c.answer.ensures ∙ ap g.R.PlainRule.answer (ap number w.word-is ∙ all)
      | in-Some w ↦
          let split = w.in-Some.ensures.cases in
          let first = w.in_turn-in-Some.ensures ∙ ap (λ s. from s w.in-Some.first.now) c.start-word.ensures in
          let whole = sym (recurrence-append g.R.PlainRule.step _ (take 8 text) (drop 8 text)) ∙ ap (from _) (take-append-drop 8 text) in
          c.answer.ensures ∙ ap g.R.PlainRule.answer (ap number w.word-is ∙ w.in_eights.ensures ∙ rw (first, split.0, split.1) whole)
    ]
