use Rattle.hash_more.proofs.Crc32Common.{ap, ◌∙◌, ◌<◌, bit_xor, All-from_get_or, bits_out}
use Rattle.hash_more.proofs.Crc32Texts.{sixteen_by_words}
use Rattle.hash_more.proofs.crc32.sixteen_in.Goals as goal

pub returns : goal.returns
returns g c =
    let p = g.P.Polynomial.POLYNOMIAL in
    sixteen_by_words p c.args.state c.args.bytes.now c.as_chunks.result.0.now _ _ _ _
    (All-from_get_or (λ byte. byte < 256) c.args.bytes.now 0 (λ i below. c.fits-bytes i)) c.told-bytes c.as_chunks.ensures.front
    (c.word_out.ensures ∙ ap (λ w. bits_out p 128 (bit_xor c.args.state w)) c.le_four.ensures)
    (c.word_out-2.ensures ∙ ap (bits_out p 96) c.le_four-2.ensures)
    (c.word_out-3.ensures ∙ ap (bits_out p 64) c.le_four-3.ensures)
    (c.word_out-4.ensures ∙ ap (bits_out p 32) c.le_four-4.ensures)
