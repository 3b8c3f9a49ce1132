use Rattle.hash_blocks.proofs.SipCommon.{◌∙◌, [], List, ℕ, ap, fold, length, lit<, after_block, ended, start}
use Rattle.std.specs.List.{concat}
use Rattle.hash_blocks.specs.Blocks.{Position, after}
use Rattle.hash_blocks.specs.BlocksLaws.{fold-position}
use Rattle.hash_blocks.specs.SipHashLaws.{total_wraps}
use Rattle.hash_blocks.proofs.siphash.keys.SipKeysBuildHasher.hash_one.Goals as goal

pub returns-clause-defined : goal.returns-clause-defined
returns-clause-defined g c =
    let writes = g.T.Hash.hash_input c.args.x in
    let key = c.args.self.now.key in
    c.finish.ensures.value
    ∙ ap (λ (at : Position (List ℕ)). ended 1 3 at.state at.left at.total)
    (c.hash.ensures ∙ ap (λ (at : Position (List ℕ)). fold (after 8 (after_block 1)) at writes) c.new-hasher.ensures.position
    ∙ fold-position 8 (lit< tt) (after_block 1) (start key.k0 key.k1) [] writes)
    ∙ total_wraps 1 3 _ _ (length (concat writes))
