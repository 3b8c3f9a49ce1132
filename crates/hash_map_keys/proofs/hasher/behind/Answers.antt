use Rattle.std.proofs.lemmas.Grind.{common_steps}
use Rattle.std.proofs.lemmas.Bool.Decides.{nat_tests}
use Rattle.std.proofs.Common.{rules}
use Rattle.hash_map_keys.proofs.Common.{All-drop, All-take, arith, eqb-true, nil_from_length}
use Rattle.hash_map_keys.proofs.Shares.{nothing_more, piece_more}
use Rattle.hash_map_keys.proofs.hasher.behind.Goals as goal

pub loop-rest-preserved : goal.loop-rest-preserved
loop-rest-preserved c = search (rules, All-drop, piece_more, All-take)

pub returns : goal.returns
returns c = grind (arith, nat_tests, common_steps, nil_from_length, eqb-true, nothing_more)
