use Rattle.hash_words.proofs.Common.{◌∙◌, sym, arith}
use Rattle.hash_words.proofs.XorshiftLemmas.{xorshift-more, xorshift-past}
use Rattle.hash_words.proofs.UndoLemmas.{told, shifted_by}
use Rattle.hash_words.proofs.words.unxorshift.Goals as goal

pub loop-shift-preserved : goal.loop-shift-preserved
loop-shift-preserved c =
    let l = c.loop-shift in
    (xorshift-more c.args.x l.y l.shift c.args.k l.invariant.0, omega arith, omega arith)

pub returns-clause-solves : goal.returns-clause-solves
returns-clause-solves c =
    let l = c.loop-shift in
    l.invariant.0 ∙ xorshift-past 64 c.args.x l.shift c.ranges.x.fits c.loop-shift-test.false

pub returns-clause-alone : goal.returns-clause-alone
returns-clause-alone c = λ y y_in same.
    told (shifted_by 6 64 c.args.k (omega arith)) y c.loop-shift.y y_in c.loop-shift.auto.y-fits.fits (same ∙ sym (returns-clause-solves c))
