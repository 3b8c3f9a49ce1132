use Rattle.hash_fx.proofs.Common.{arith}
use Rattle.hash_fx.specs.FxStepLaws.{fx32_of_word}
use Rattle.hash_fx.proofs.word.U32FxWord.word_to.Goals as goal

pub returns : goal.returns
returns c = rw c.rotl32.ensures.value ((fx32_of_word c.args.self (omega arith)).there c.args.to (omega arith))
