use Rattle.hash_c.proofs.Common.{◌∙◌, refl, position-nil}
use Rattle.hash_c.proofs.block.begun.Goals as goal

pub returns : goal.returns
returns g c = record {
  usable = (refl, g.met.R.BlockRule.some);
  there = position-nil g.row.N g.met.R.BlockRule.some g.R.BlockRule.block _ _ (c.in_words-long.ensures ∙ c.start.ensures);
}
