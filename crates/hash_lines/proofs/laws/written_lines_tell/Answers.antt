use Rattle.hash_lines.proofs.Lemmas.{line_tells, line_shown, rules}
use Rattle.hash_lines.proofs.laws.written_lines_tell.Goals as goal

pub returns : goal.returns
returns c kinds default kind form may escapes name number named small = search (rules, line_tells, line_shown)
