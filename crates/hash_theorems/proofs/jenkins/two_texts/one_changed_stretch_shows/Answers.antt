use Rattle.hash_theorems.proofs.ShortStretches.{short_words-differ, short_words_v1-differ}
use Rattle.hash_theorems.proofs.jenkins.two_texts.one_changed_stretch_shows.Goals as goal

pub returns : goal.returns
returns c = record { words = short_words-differ; words_v1 = short_words_v1-differ }
