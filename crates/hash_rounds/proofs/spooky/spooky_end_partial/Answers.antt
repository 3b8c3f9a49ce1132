use Rattle.hash_rounds.proofs.Common.{refl, spooky_end_partial_steps, spooky_end_partial_row, spooky_end_partial_rows}
use Rattle.hash_rounds.proofs.StepLemmas.{made}
use Rattle.hash_rounds.proofs.spooky.spooky_end_partial.Goals as goal

pub returns : goal.returns
unfolding spooky_end_partial_steps
returns c =
    let both = made 64 spooky_end_partial_row spooky_end_partial_rows _ c.end_partial_row-12.new.s c.told-s c.fits-s refl (cc) in
    record { round = both.0; undone = both.1 }
