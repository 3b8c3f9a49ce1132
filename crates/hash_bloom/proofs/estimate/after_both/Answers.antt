use Rattle.hash_bloom.proofs.Lemmas.{arith, expected_both}
use Rattle.hash_bloom.proofs.estimate.after_both.Goals as goal

pub returns-clause-expected : goal.returns-clause-expected
returns-clause-expected c = λ bits one other.
    let x = c.args.one in
    let y = c.args.other in
    expected_both bits x.probes y.probes x.zeros y.zeros c.product_high.result one other (omega arith) c.product_high.ensures
