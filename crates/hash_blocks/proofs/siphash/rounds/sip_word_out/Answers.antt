use Rattle.hash_blocks.proofs.SipCommon.{sym, arith, found, found_alone}
use Rattle.hash_blocks.proofs.BackLemmas.{of_word}
use Rattle.hash_blocks.proofs.siphash.rounds.sip_word_out.Goals as goal

pub returns : goal.returns
returns g c =
    let word = of_word g.row.C c.args.word (omega arith) in
    record {
      back = found word c.args.v.now (c.told-v, c.fits-v) _ c.word_out.ensures;
      undone = λ s s_in led. sym (found_alone word c.args.v.now _ c.word_out.ensures s s_in led);
    }
