use Rattle.std.proofs.lemmas.Grind.{common_steps}
use Rattle.std.proofs.lemmas.Bool.Decides.{nat_tests}
use Rattle.hash_map_keys.proofs.Common.{arith, ◌∙◌}
use Rattle.hash_map_keys.proofs.Shares.{answer_long, answer_short, high_only, word_none, word_some}
use Rattle.hash_map_keys.proofs.hasher.MapHasherHasher.finish.Goals as goal

pub returns-then-self-le128 : goal.returns-then-self-le128
returns-then-self-le128 c = c.high.ensures ∙ answer_short c.args.self.now c.if-self-le128.true (omega arith)

pub returns-in-None : goal.returns-in-None
returns-in-None c = grind (arith, nat_tests, common_steps, high_only, answer_long, word_none)

pub returns-in-Some : goal.returns-in-Some
returns-in-Some c = grind (arith, nat_tests, common_steps, answer_long, word_some)
