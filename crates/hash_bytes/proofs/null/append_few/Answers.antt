use Rattle.hash_bytes.proofs.Common.{◌∙◌, ap, sym, arith, take, get_or, take_more, passthrough_from, passthrough_step, passthrough_sums}
use Rattle.hash_bytes.proofs.null.append_few.Goals as goal

pub loop-byte-init : goal.loop-byte-init
loop-byte-init c = sym (passthrough_sums.of_nothing c.args.state (omega arith))

pub loop-byte-preserved : goal.loop-byte-preserved
loop-byte-preserved c =
    let bytes = c.args.bytes.now in
    let i = c.loop-byte.byte-index in
    c.append_byte-state.ensures ∙ ap (λ s. passthrough_step s (get_or bytes i 0)) c.loop-byte.invariant
    ∙ sym (passthrough_sums.of_one (passthrough_from c.args.state (take i bytes)) (get_or bytes i 0))
    ∙ passthrough_sums.joined c.args.state (take i bytes) _ ∙ ap (passthrough_from c.args.state)
    (sym (take_more bytes i 0 c.loop-byte-test.true))
