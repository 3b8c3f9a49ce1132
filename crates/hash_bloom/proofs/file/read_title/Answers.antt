use Rattle.hash_bloom.proofs.Common.{rules, ◌≡◌, ◌++◌, Err, codes}
use Rattle.hash_bloom.proofs.file.read_title.Goals as goal

pub returns-in_err-expect-clause-refused : goal.returns-in_err-expect-clause-refused
returns-in_err-expect-clause-refused g c =
    let is : c.from_residual.result ≡ Err c.in_err-expect.field-0.0 = search rules in
    rw is (λ refusal rest known. c.in_err-expect.ensures.refused refusal (codes "2 " ++ rest) known)
