use Rattle.hash_keyed.proofs.Lemmas.{◌∙◌, ◌%◌, ap, sym, arith, All-from_get_or, le, IsByte, take_all, low_word}
use Rattle.hash_keyed.proofs.words.seven_of.Goals as goal

pub returns-clause-value : goal.returns-clause-value
returns-clause-value c =
    let block = c.args.block.now in
    ap (λ n. n % 72057594037927936) (c.le64.ensures ∙ ap le (sym (take_all 8 block (omega (arith, c.told-block)))))
    ∙ (low_word block (All-from_get_or IsByte block 0 (λ k _. c.fits-block k)) (omega (arith, c.told-block))).0
