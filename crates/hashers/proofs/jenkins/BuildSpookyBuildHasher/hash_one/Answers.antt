use Rattle.hash_jenkins.proofs.Common.{◌≡◌, ℕ, [], ◌∙◌, ap, refl, subst, Position, after, hash, position, after_write, IsPosition, IsPosition-after, after-append, after-nil, after-position, hash-position}
use Rattle.std.specs.List.{concat}
use Rattle.hash_writes.proofs.KeyLemmas.{fold-concat, state_after_writes}
use Rattle.hashers.proofs.jenkins.BuildSpookyBuildHasher.hash_one.Goals as goal

pub returns-clause-defined : goal.returns-clause-defined
returns-clause-defined g c = λ texts.
    let seeds = c.args.self.now in
    let start = position seeds.seed1 seeds.seed2 [] in
    let writes = g.T.Hash.hash_input c.args.x in
    let at : c.hash.new.state.at ≡ position seeds.seed1 seeds.seed2 (concat writes) =
    ap (λ s. s.at) c.hash.ensures ∙ state_after_writes after_write (λ s. s.at) after (λ h piece. refl) c.new-hasher.result start writes
    c.new-hasher.ensures.position
    ∙ fold-concat IsPosition after IsPosition-after after-nil after-append start writes
    (subst IsPosition c.new-hasher.ensures.position c.new-hasher.ensures.in_range) texts
    ∙ after-position seeds.seed1 seeds.seed2 [] (concat writes) in
    c.finish.ensures.value ∙ ap (λ (a : Position). (hash a).0) at
    ∙ ap (λ (r : ℕ × ℕ). r.0) (hash-position seeds.seed1 seeds.seed2 (concat writes))
