use Rattle.std.specs.Prelude.{[], ◌∷◌}
use Rattle.hashers.proofs.promises.murmur3_32_of_writes.Goals as goal

pub returns : goal.returns
returns c =
    c.hash.ensures.where_it_stands (c.args.seed ∷ []) _ (c.run_writes_streamed.ensures.stands (c.args.seed ∷ []) [] c.new-hasher.ensures.stands)
