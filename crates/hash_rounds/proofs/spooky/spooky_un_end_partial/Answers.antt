use Rattle.hash_rounds.proofs.Common.{refl, spooky_end_partial_steps, spooky_end_partial_row, spooky_end_partial_rows}
use Rattle.hash_rounds.proofs.StepLemmas.{unmade}
use Rattle.hash_rounds.proofs.spooky.spooky_un_end_partial.Goals as goal

pub returns : goal.returns
unfolding spooky_end_partial_steps
returns c =
    let both = unmade 64 spooky_end_partial_row spooky_end_partial_rows _ c.un_end_partial_row-12.new.s c.told-s c.fits-s refl (cc) in
    record { round = both.0; undone = both.1 }
