use Rattle.std.proofs.Common.{◌∙◌, ap}
use Rattle.hashers.specs.Oz.{djb2_from}
use Rattle.hash_uses.proofs.uses.replace_last.Goals as goal

pub returns : goal.returns
returns c =
    λ s s_in before. c.write.ensures.state ∙ ap (λ t. djb2_from t c.args.new.now) (c.unwrite.ensures.undone s s_in before)
