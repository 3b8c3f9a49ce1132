use Rattle.std.specs.Prelude.{[], ◌∷◌}
use Rattle.hashers.proofs.promises.siphash24_of_writes.Goals as goal

pub returns : goal.returns
returns c =
    c.hash.ensures.where_it_stands (c.args.key.k0 ∷ c.args.key.k1 ∷ []) _ (c.run_writes_streamed.ensures.stands (c.args.key.k0 ∷ c.args.key.k1 ∷ []) [] c.new-hasher.ensures.stands)
