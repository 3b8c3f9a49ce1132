use Rattle.hash_jenkins.proofs.Common.{arith, common_steps}
use Rattle.hash_laws.specs.TextLaws.{IsText-from_slice}
use Rattle.hash_jenkins.proofs.WriteLemmas.{settled_still, settled_long, in_range_after}
use Rattle.hash_jenkins.proofs.spooky_parts.SpookyParts.write_counted.Goals as goal

pub returns-then-self-lt-LONG-clause-settled : goal.returns-then-self-lt-LONG-clause-settled
returns-then-self-lt-LONG-clause-settled c = λ settled.
    settled_still c.args.self.now _ _ _ settled (omega arith) c.if-self-lt-LONG.true (omega arith) c.put.ensures
    (in_range_after c.args.self.now _ c.args.bytes.now settled (grind (arith, common_steps)) (IsText-from_slice _ c.type_inv.bytes))

pub returns-else-self-lt-LONG-clause-settled : goal.returns-else-self-lt-LONG-clause-settled
returns-else-self-lt-LONG-clause-settled c = λ settled.
    settled_long _ (omega arith) c.mix_blocks-self.ensures.part
    (in_range_after c.args.self.now _ c.args.bytes.now settled (grind (arith, common_steps)) (IsText-from_slice _ c.type_inv.bytes))
