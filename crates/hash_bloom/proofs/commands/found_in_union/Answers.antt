use Rattle.hash_bloom.proofs.Lemmas.{found_exactly}
use Rattle.hash_bloom.proofs.commands.found_in_union.Goals as goal

pub returns-clause-exactly : goal.returns-clause-exactly
returns-clause-exactly g c =
    let exactly = found_exactly g.F.Piecewise.hash_of g.G.Piecewise.hash_of _ _ _ c.args.key.now c.union.ensures.united in
    (λ found. exactly.0 (c.contains.ensures.0 found), λ covered. c.contains.ensures.1 (exactly.1 covered))
