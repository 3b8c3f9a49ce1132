use Rattle.hash_keyed.proofs.Lemmas.{arith, common_steps, answer_of_text}
use Rattle.hash_keyed.proofs.poly61.Poly61HasherHasher.finish.Goals as goal

pub returns-clause-of_text : goal.returns-clause-of_text
returns-clause-of_text c = answer_of_text c.args.self.now _ (grind (arith, common_steps))
