use Rattle.text_set.proofs.SetLemmas.{place_stays}
use Rattle.text_set.proofs.laws.texts_keep_their_places.Goals as goal

pub returns : goal.returns
returns c = place_stays
