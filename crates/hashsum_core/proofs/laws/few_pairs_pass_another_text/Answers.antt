use Rattle.hashsum_core.proofs.Common.{slice_index_or}
use Rattle.hashsum_core.proofs.KeyLemmas.{meets_at_both}
use Rattle.hashsum_core.proofs.laws.few_pairs_pass_another_text.Goals as goal

pub returns : goal.returns
returns g c folder file ignore_missing first text pairs is_first is_text differ holds are same =
    c.few_pairs_for_two_texts.ensures first text pairs is_first is_text differ are (λ k d below.
    let keys = slice_index_or pairs k d in
    let (first_in, second_in) = are.below k d below in
    meets_at_both (g.F.Folder.opens folder file) ignore_missing first text is_first holds keys first_in second_in (same k d below))
