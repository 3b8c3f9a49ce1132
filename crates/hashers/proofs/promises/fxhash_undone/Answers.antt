use Rattle.hashers.proofs.Common.{◌∙◌, all_written, recurrence-pieces, fx64_step, words64}
use Rattle.hashers.proofs.WordsWritten.{written_from}
use Rattle.hashers.proofs.promises.fxhash_undone.Goals as goal

pub returns-clause-there : goal.returns-clause-there
returns-clause-there c = c.there_and_back.ensures.there ∙ recurrence-pieces fx64_step words64 _ (all_written c.args.writes.now)

pub returns-clause-back : goal.returns-clause-back
returns-clause-back c =
    let back = c.there_and_back.ensures.back in written_from fx64_step words64 (all_written c.args.writes.now) _ _ _ back.3 back.2
