use Rattle.text_set.proofs.Common.{eqb, ap, ◌∙◌, arith, w8, length-chunk, bitmask_splat, trailing_mask_l}
use lib.Count.{count_trailing_zeros}
use lib.Lanes.{chunk}
use Rattle.text_set.proofs.lines.before_end.Goals as goal

pub returns-then-ends-eq0 : goal.returns-then-ends-eq0
returns-then-ends-eq0 c = grind (arith, length-chunk c.args.at 16 c.args.bytes.now c.requires)

pub returns-else-ends-eq0 : goal.returns-else-ends-eq0
returns-else-ends-eq0 c =
    let v = chunk c.args.at 16 c.args.bytes.now in
    let long = length-chunk c.args.at 16 c.args.bytes.now c.requires in
    let hits = bitmask_splat w8 eqb v 16 c.args.eol long (omega arith) in
    ap (count_trailing_zeros 64) hits ∙ trailing_mask_l (λ x. eqb x c.args.eol) 64 v (omega arith) (omega arith)
