use Rattle.hash_laws.proofs.WindowCommon.{◌+◌, ◌-◌, ◌%◌, arith, nat_tests}
use Rattle.hash_laws.proofs.OneBlock.{DifferInOneBlock-iff-agree, agree_past}
use Rattle.hash_laws.proofs.windows.window.differ_in_one_block.Goals as goal

pub returns-then-behind-x : goal.returns-then-behind-x
returns-then-behind-x g c =
    let n = g.row.N in
    let from = c.in-Some.from in
    let x = c.args.x.now in
    let y = c.args.y.now in
    let same = DifferInOneBlock-iff-agree n from c.requires x y c.if-x-y.false c.in-Some.ensures.some in
    let past = agree_past n from c.requires x y (from + (n - from % n)) c.if-x-y.false (omega arith) in
    (λ yes. same.0 past, λ differ. grind (arith, nat_tests))

pub returns-else-behind-x : goal.returns-else-behind-x
returns-else-behind-x g c =
    let same = DifferInOneBlock-iff-agree g.row.N c.in-Some.from c.requires c.args.x.now c.args.y.now c.if-x-y.false c.in-Some.ensures.some in
    (λ yes. same.0 (c.agree_from.ensures.0 yes), λ differ. c.agree_from.ensures.1 (same.1 differ))
