use Rattle.hash_lines.proofs.TagLemmas.{tags_seen}
use Rattle.hash_lines.proofs.laws.tags_by_their_names.Goals as goal

pub returns : goal.returns
returns c = tags_seen
