use Rattle.hash_ring.proofs.Lemmas.{take-append_seam, one_more, rules}
use Rattle.std.specs.Hash.{le_bytes}
use Rattle.hash_ring.proofs.push_points.Goals as goal

pub loop-number-preserved : goal.loop-number-preserved
unfolding le_bytes
loop-number-preserved g c = search (rules, take-append_seam, one_more)
