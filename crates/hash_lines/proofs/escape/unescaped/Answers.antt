use Rattle.hash_lines.proofs.Common.{nat_tests, common_steps}
use Rattle.hash_lines.proofs.Lemmas.{rules, no_name, escape_more, arith}
use Rattle.hash_lines.proofs.escape.unescaped.Goals as goal

pub returns-in_default : goal.returns-in_default
returns-in_default c name is =
    no_name c.loop-rest.name.items c.loop-rest.rest.now c.args.shown.now name c.loop-rest.invariant (search rules) c.in_default.ensures is

pub loop-rest-preserved : goal.loop-rest-preserved
loop-rest-preserved c = grind (arith, nat_tests, common_steps, escape_more)
