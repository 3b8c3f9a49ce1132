use Rattle.hash_xxh3.proofs.Common.{◌≡◌, ◌%◌, sym, arith, two-inside, two-at_end}
use Rattle.hash_xxh3.proofs.long.two_in.Goals as goal

pub returns-then-lanes-lt14-clause-value : goal.returns-then-lanes-lt14-clause-value
returns-then-lanes-lt14-clause-value c =
    let below : c.args.lanes.stripe % 16 ≡ c.args.lanes.stripe = omega (arith, c.requires.block) in
    rw (c.accumulate-words.ensures, c.accumulate-middle.ensures, below)
    (sym (two-inside c.args.secret.now c.args.first.now c.args.second.now c.args.lanes c.requires.even c.if-lanes-lt14.true))

pub returns-else-lanes-lt14-clause-value : goal.returns-else-lanes-lt14-clause-value
returns-else-lanes-lt14-clause-value c =
    let below : c.args.lanes.stripe % 16 ≡ c.args.lanes.stripe = omega (arith, c.requires.block) in
    rw (c.scramble.ensures, c.accumulate-words.ensures, c.accumulate-middle.ensures, below)
    (sym (two-at_end c.args.secret.now c.args.first.now c.args.second.now c.args.lanes c.requires.even c.if-lanes-lt14.false c.requires.block))
