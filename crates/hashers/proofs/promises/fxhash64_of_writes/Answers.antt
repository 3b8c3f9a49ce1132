use Rattle.hashers.proofs.Common.{◌∙◌, ap, flat_map, all_written, recurrence-pieces, fx64, fx64_step, words64}
use Rattle.hashers.proofs.promises.fxhash64_of_writes.Goals as goal

pub returns : goal.returns
returns c =
    let writes = all_written c.args.writes.now in
    c.finish.ensures.value ∙ c.run_writes.ensures.state ∙ recurrence-pieces fx64_step words64 _ writes
    ∙ ap (λ s. fx64 s (flat_map words64 writes)) c.default-hasher.ensures
