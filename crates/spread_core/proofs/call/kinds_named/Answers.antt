use Rattle.spread_core.proofs.Common.{◌++◌, ◌∷◌, [], ap, sym, ◌∙◌, kind_called}
use Rattle.spread_core.proofs.FoundLemmas.{found_none, found_one}
use Rattle.spread_core.proofs.call.kinds_named.Goals.{in-Some+in_ok-push, in_default}
use Rattle.spread_core.proofs.call.kinds_named.Goals as goal

pub loop-name-preserved : goal.loop-name-preserved
loop-name-preserved c = elim c.match-kind_called.branch [
  | in-Some+in_ok-push w ↦
      ap (λ kinds. kinds.items) w.kinds-is ∙ w.in_ok-push.ensures.items ∙ ap (λ items. items ++ w.in-Some.kind ∷ []) c.loop-name.invariant
      ∙ sym (found_one kind_called (λ name. name.now) c.args.names.now c.loop-name.name-index _ c.loop-name-test.true w.in-Some.kind
      (sym c.kind_called.ensures ∙ w.in-Some.is))
  | in_default w ↦
      ap (λ kinds. kinds.items) w.kinds-is ∙ c.loop-name.invariant
      ∙ sym (found_none kind_called (λ name. name.now) c.args.names.now c.loop-name.name-index _ c.loop-name-test.true
      (sym c.kind_called.ensures ∙ w.in_default.is))
]
