use Rattle.hash_c.proofs.Common.{◌∙◌, ap, take, Some, answer-position}
use Rattle.hash_c.proofs.block.hash_so_far.Goals as goal

pub returns-clause-of_text : goal.returns-clause-of_text
returns-clause-of_text g c = λ from text stands.
    ap Some (
    c.finish.ensures
    ∙ ap (λ kept. g.R.BlockRule.finish kept (take c.args.state.now.kept c.args.state.now.buffer) c.args.state.now.length)
    c.of_words-lanes.ensures
    ∙ ap (λ at. g.R.BlockRule.finish at.state at.left at.total) stands.there
    ∙ answer-position g.row.N g.met.R.BlockRule.some g.R.BlockRule.block g.R.BlockRule.start g.R.BlockRule.finish
    g.met.R.BlockRule.total_wraps g.R.BlockRule.hash g.met.R.BlockRule.is_hash from text
    )
