use Rattle.hash_buckets.proofs.Common.{◌≡◌, ◌++◌, ◌∙◌, ap, rules, arith, append_assoc, NeedsMemory, nat_tests, common_steps}
use Rattle.std.proofs.lemmas.List.Sums.{fold-append}
use Rattle.hash_buckets.proofs.Runs.{replies_to-push, stops_at}
use Rattle.hash_buckets.proofs.obey_all.Goals as goal

pub loop-command-init : goal.loop-command-init
loop-command-init g c = grind (arith, nat_tests, common_steps)

pub loop-command-preserved : goal.loop-command-preserved
loop-command-preserved g c = grind (arith, nat_tests, common_steps, fold-append, replies_to-push, append_assoc)

-- the replies have room
pub returns-in_err-push-in-Ok-clause-begun : goal.returns-in_err-push-in-Ok-clause-begun
returns-in_err-push-in-Ok-clause-begun g c = grind (arith, nat_tests, common_steps)

pub returns-in-Err-clause-begun : goal.returns-in-Err-clause-begun
returns-in-Err-clause-begun g c =
    let before = c.loop-command.invariant in
    let same : c.obey.new.table ≡ c.loop-command.table = search rules in
    let wanted : NeedsMemory c.loop-command.table c.in-Some.command = search rules in
    stops_at c.args.table.now c.obey.new.table _ c.loop-command.yielded c.in-Some.command c.next.new.self.rest.items
    (before.split ∙ ap (λ t. c.loop-command.yielded ++ t) c.in-Some.ensures.steps.0)
    c.loop-command.table before.content same wanted
