use Rattle.std.proofs.Common.{arith}
use Rattle.std.proofs.lemmas.Grind.{text_counts}
use Rattle.hash_uses.proofs.maps.count_words.Goals as goal

pub overflow_add-counts : goal.overflow_add-counts
overflow_add-counts g c = grind (arith, text_counts)

pub loop-word-preserved : goal.loop-word-preserved
loop-word-preserved g c = grind (arith, text_counts)
