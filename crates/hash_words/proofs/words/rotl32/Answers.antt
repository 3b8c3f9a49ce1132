use Rattle.hash_words.proofs.Common.{◌∙◌, arith}
use Rattle.hash_words.proofs.WordLemmas.{rotate_left-32, rotl-rotl}
use Rattle.hash_words.proofs.words.rotl32.Goals as goal

pub returns-clause-value : goal.returns-clause-value
returns-clause-value c = c.rotate_left.ensures ∙ rotate_left-32 c.args.x c.args.k c.ranges.x.fits c.requires.some c.requires.within

pub returns-clause-undone : goal.returns-clause-undone
returns-clause-undone c = rw (returns-clause-value c) (rotl-rotl 32 c.args.x c.args.k (omega arith) c.ranges.x.fits)
