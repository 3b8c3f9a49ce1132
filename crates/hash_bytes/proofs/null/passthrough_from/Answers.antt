use Rattle.hash_bytes.proofs.Common.{◌∙◌, ap, sym, length, digit_sum, from_be_bytes-8, passthrough_of_last}
use Rattle.hash_laws.specs.TextLaws.{IsText-from_slice}
use Rattle.hash_bytes.proofs.null.passthrough_from.Goals as goal

pub returns-in-Some : goal.returns-in-Some
returns-in-Some c =
    let chunk = c.in-Some.ensures.cases in
    c.from_be_bytes.ensures ∙ from_be_bytes-8 _ (ap length chunk.1.same ∙ chunk.1.long) ∙ ap (digit_sum 256) chunk.1.same
    ∙ sym (passthrough_of_last c.args.state c.args.bytes.now chunk.0 (IsText-from_slice _ c.type_inv.bytes))
