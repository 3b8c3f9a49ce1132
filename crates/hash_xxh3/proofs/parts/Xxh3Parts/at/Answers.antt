use Rattle.hash_xxh3.proofs.Common.{arith, IsByte, IsLong-advanced, length-take-le, All-take}
use Rattle.hash_xxh3.proofs.AdvanceLemmas.{settled_long}
use Rattle.hash_xxh3.proofs.parts.Xxh3Parts.at.Goals as goal

pub returns-then-long-clause-settled : goal.returns-then-long-clause-settled
returns-then-long-clause-settled c =
    let long = c.if-long.true in
    let some = c.requires.some long in
    settled_long _ long (record {
      some = some;
      few = c.requires.few long;
      block = c.requires.lanes.in_block;
      secret_is = c.secret_of-secret.ensures;
    }) (rw long (IsLong-advanced c.args.seed c.args.lanes c.args.length _ c.requires.lanes c.ranges.seed.fits c.ranges.length.fits
    (All-take IsByte c.args.kept c.args.buffer c.bytes_are_a_text.ensures) (omega (arith, some, length-take-le c.args.kept c.args.buffer (omega (arith, c.requires.few long))))))
