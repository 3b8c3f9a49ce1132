use Rattle.hash_lines.proofs.Common.{rules, [], ◌∷◌}
use Rattle.hash_lines.proofs.keys.hash_of_siphash24.Goals as goal

pub returns-then-taken : goal.returns-then-taken
returns-then-taken g c =
    let read = c.in-Ok.ensures.taken in (
      read.text,
      record { is_text = read.is_text; read = read.read; end = search rules; below = search rules },
      c.hash.ensures.where_it_stands (c.args.keys.0 ∷ c.args.keys.1 ∷ []) read.text
          (read.stands (c.args.keys.0 ∷ c.args.keys.1 ∷ []) [] c.new-hasher.ensures.stands),
    )
