use Rattle.hashers.proofs.Common.{◌∙◌, ap, flat_map, all_written, recurrence-pieces, fx32, fx32_step, words32}
use Rattle.hashers.proofs.promises.fxhash32_of_writes.Goals as goal

pub returns : goal.returns
returns c =
    let writes = all_written c.args.writes.now in
    c.finish.ensures.value ∙ c.run_writes.ensures.state ∙ recurrence-pieces fx32_step words32 _ writes
    ∙ ap (λ s. fx32 s (flat_map words32 writes)) c.default-hasher.ensures
