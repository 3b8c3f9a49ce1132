use Rattle.hash_rounds.proofs.Common.{length, refl, AreWords-at}
use Rattle.hash_rounds.proofs.StepLemmas.{of_steps, apply-words}
use Rattle.hash_rounds.proofs.steps.steps_undo_one_another.Goals as goal

pub returns : goal.returns
returns c = record {
  undone = λ w steps d s h d_in s_in.
      (of_steps w (length s) (length d) d (AreWords-at w d d_in) steps h).back s (refl, AreWords-at w s s_in);
  redone = λ w steps d s h d_in s_in.
      (of_steps w (length s) (length d) d (AreWords-at w d d_in) steps h).there s (refl, AreWords-at w s s_in);
  kept = λ w steps d s h s_in. apply-words w (length d) steps d s h s_in;
}
