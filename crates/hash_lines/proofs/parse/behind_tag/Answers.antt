use Rattle.hash_lines.proofs.Lemmas.{codes, behind_both}
use Rattle.hash_lines.proofs.parse.behind_tag.Goals as goal

pub returns : goal.returns
returns c =
    behind_both c.behind-2.result c.args.tag.now (codes " (") c.in_ok-behind.field-0.now c.args.body.now c.in_ok-behind.ensures
    c.behind-2.ensures
