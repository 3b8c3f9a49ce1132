use Rattle.hash_rounds.proofs.Common.{refl, short_mix_steps, short_mix_group, short_mix_table}
use Rattle.hash_rounds.proofs.StepLemmas.{unmade}
use Rattle.hash_rounds.proofs.short.un_short_mix.Goals as goal

pub returns : goal.returns
unfolding short_mix_steps
returns c =
    let both = unmade 64 short_mix_group short_mix_table _ c.unmix_group-12.new.h c.told-h c.fits-h refl (cc) in
    record { round = both.0; undone = both.1 }
