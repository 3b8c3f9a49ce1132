use Rattle.hash_bloom.proofs.Common.{◌-◌, ◌^◌}
use Rattle.hash_bloom.proofs.estimate.+last_above.Given as goal

abbrev pub decreases-last_above : goal.decreases-last_above
decreases-last_above l = 2 ^ 70 - l.one.probes
