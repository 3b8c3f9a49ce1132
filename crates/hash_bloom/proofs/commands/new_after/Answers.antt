use Rattle.hash_bloom.proofs.Lemmas.{found_exactly}
use Rattle.hash_bloom.proofs.commands.new_after.Goals as goal

pub returns-clause-exactly : goal.returns-clause-exactly
returns-clause-exactly g c =
    let exactly = found_exactly g.F.Piecewise.hash_of g.G.Piecewise.hash_of _ _ _ c.args.key.now c.obey_all.ensures.set in
    (λ known. exactly.0 (c.insert.ensures.before.0 known), λ covered. c.insert.ensures.before.1 (exactly.1 covered))
