use Rattle.hash_xxh3.proofs.Common.{refl, IsText-from_slice}
use Rattle.hash_xxh3.proofs.AdvanceLemmas.{in_range_after, settled_long}
use Rattle.hash_xxh3.proofs.parts.Xxh3Parts.write_through.Goals as goal

pub returns-clause-position : goal.returns-clause-position
returns-clause-position c = rw c.requires.short (c.begin_through-self.ensures.position _ c.secret_of-self.ensures)

pub returns-clause-settled : goal.returns-clause-settled
returns-clause-settled c =
    settled_long _ refl (record {
      some = c.begin_through-self.ensures.some;
      few = c.begin_through-self.ensures.few;
      block = c.begin_through-self.ensures.in_block;
      secret_is = c.secret_of-self.ensures;
    }) (in_range_after c.args.self.now _ c.args.bytes.now c.requires.settled (returns-clause-position c) (IsText-from_slice _ c.type_inv.bytes))
