use Rattle.std.proofs.Common.{◌++◌, ◌∙◌, arith, length-append, sym}
use Rattle.hash_laws.proofs.OneBlock.{middles-DifferInOneBlock}
use Rattle.hash_theorems.proofs.blocks.by_rule.middles_in_one_block.Goals as goal

pub returns-clause-block : goal.returns-clause-block
returns-clause-block c = middles-DifferInOneBlock

pub returns-clause-word : goal.returns-clause-word
returns-clause-word c = λ front x y back place four four' different. record {
  differ = middles-DifferInOneBlock 4 front x y back (four ∙ sym four') different (omega (arith, place, four));
  whole = omega (arith, place, four, length-append front (x ++ back), length-append x back);
}

pub returns-clause-last_word : goal.returns-clause-last_word
returns-clause-last_word c = λ front x y back last eight eight' different.
    let all = length-append front (x ++ back) in
    let later = length-append x back in
    record {
      differ = middles-DifferInOneBlock 8 front x y back (eight ∙ sym eight') different (omega (arith, last.place, eight));
      behind = omega (arith, last.place, last.behind, eight, all, later);
      whole = omega (arith, last.place, eight, all, later);
    }
