use Rattle.hash_lines.proofs.Lemmas.{line_one}
use Rattle.hash_lines.proofs.laws.a_line_tells_one_thing.Goals as goal

pub returns : goal.returns
returns c kinds default are kind other name more number count line tells too =
    line_one kinds default are kind other name more number count line tells too
