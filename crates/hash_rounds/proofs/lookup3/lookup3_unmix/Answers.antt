use Rattle.hash_rounds.proofs.Common.{refl, lookup3_mix_steps, lookup3_mix_group, lookup3_mix_table}
use Rattle.hash_rounds.proofs.StepLemmas.{unmade}
use Rattle.hash_rounds.proofs.lookup3.lookup3_unmix.Goals as goal

pub returns : goal.returns
unfolding lookup3_mix_steps
returns c =
    let both = unmade 32 lookup3_mix_group lookup3_mix_table _ c.unmix_group-6.new.s c.told-s c.fits-s refl (cc) in
    record { round = both.0; undone = both.1 }
