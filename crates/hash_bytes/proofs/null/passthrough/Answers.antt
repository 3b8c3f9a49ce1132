use Rattle.hash_bytes.proofs.Common.{◌∙◌}
use Rattle.hash_bytes.proofs.LastBytes.{passthrough-last}
use Rattle.hash_bytes.proofs.null.passthrough.Goals as goal

pub returns-clause-last : goal.returns-clause-last
returns-clause-last c = c.hash_by_rule.ensures.value ∙ passthrough-last c.args.bytes.now c.hash_by_rule.ensures.text
