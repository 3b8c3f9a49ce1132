use Rattle.hash_rounds.proofs.Common.{refl, lookup3_final_steps, lookup3_final_group, lookup3_final_table}
use Rattle.hash_rounds.proofs.StepLemmas.{made}
use Rattle.hash_rounds.proofs.lookup3.lookup3_final.Goals as goal

pub returns : goal.returns
unfolding lookup3_final_steps
returns c =
    let both = made 32 lookup3_final_group lookup3_final_table _ c.final_group-7.new.s c.told-s c.fits-s refl (cc) in
    record { round = both.0; undone = both.1 }
