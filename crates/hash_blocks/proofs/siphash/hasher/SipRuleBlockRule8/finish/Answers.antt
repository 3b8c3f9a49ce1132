use Rattle.hash_blocks.proofs.SipCommon.{◌≡◌, ◌∙◌, ◌+◌, ◌*◌, ◌%◌, ◌^◌, ℕ, ap, after_word, folded, last_word, rounds, xored}
use Rattle.hash_blocks.proofs.SipWords.{xored-third}
use Rattle.hash_blocks.proofs.siphash.hasher.SipRuleBlockRule8.finish.Goals as goal

pub returns : goal.returns
unfolding folded last_word
returns g c =
    let word : c.le_seven.result + c.args.total % 256 * 2 ^ 56 ≡ last_word c.args.left.now c.args.total =
    ap (λ (n : ℕ). n + c.args.total % 256 * 2 ^ 56) c.le_seven.ensures.value in
    let led = c.word_in.ensures ∙ ap (after_word g.row.C c.args.state.now) word in
    ap folded (c.sip_rounds.ensures ∙ ap (rounds g.row.D) (xored-third c.word_in.new.v 0xff c.word_in.array_long
    ∙ ap (xored 0 0 0xff 0) led))
