use Rattle.hash_xxh3.proofs.Common.{◌+◌, length, take, ap, ◌∙◌, refl, arith, take-put_at}
use Rattle.hash_xxh3.proofs.advance.keep_all.Goals as goal

pub returns-clause-kept : goal.returns-clause-kept
returns-clause-kept c =
    let size = length c.args.bytes.now in
    ap (take (c.args.kept + size)) c.put.ensures
    ∙ take-put_at c.args.kept c.args.bytes.now c.args.buffer.now (c.args.kept + size) refl (omega arith)
