use Rattle.hash_theorems.proofs.MoreCommon.{◌<◌, length, arith, Decides-eqb, IsText-from_slice, common_steps, nat_tests, rules}
use Rattle.hash_theorems.proofs.BurstLemmas.{short_text, lowest_of, fifth_allows, fifth_refuses}
use Rattle.hash_theorems.proofs.more.bursts.is_burst_from_the_first.Goals as goal

pub returns-then-x-le4 : goal.returns-then-x-le4
returns-then-x-le4 c = search (rules, short_text, IsText-from_slice)

pub overflow_shr-x : goal.overflow_shr-x
overflow_shr-x c = grind (arith, nat_tests, common_steps, lowest_of, IsText-from_slice)

pub returns-then-x-y-eq0 : goal.returns-then-x-y-eq0
returns-then-x-y-eq0 c = search (rules, fifth_allows, IsText-from_slice)

pub returns-else-x-y-eq0 : goal.returns-else-x-y-eq0
returns-else-x-y-eq0 c =
    let long : 4 < length c.args.x.now = omega arith in (
      (λ yes. absurd (c.if-x-y-eq0.false ((Decides-eqb _ _).0 yes))),
      (λ differ. absurd (fifth_refuses c.args.x.now c.args.y.now (IsText-from_slice c.args.x.now c.type_inv.x)
          (IsText-from_slice c.args.y.now c.type_inv.y) c.requires.same_length long c.requires.differ c.if-x-y-eq0.false differ)),
    )
