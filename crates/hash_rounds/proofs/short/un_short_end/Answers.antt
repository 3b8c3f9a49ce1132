use Rattle.hash_rounds.proofs.Common.{refl, short_end_steps, short_end_group, short_end_table}
use Rattle.hash_rounds.proofs.StepLemmas.{unmade}
use Rattle.hash_rounds.proofs.short.un_short_end.Goals as goal

pub returns : goal.returns
unfolding short_end_steps
returns c =
    let both = unmade 64 short_end_group short_end_table _ c.unend_group-11.new.h c.told-h c.fits-h refl (cc) in
    record { round = both.0; undone = both.1 }
