use Rattle.hash_jenkins.proofs.Common.{◌≡◌, ◌+◌, ◌%◌, ◌^◌, ℕ, [], ◌∷◌, ap, arith}
use Rattle.hash_jenkins.proofs.lookup.start.Goals as goal

pub returns : goal.returns
returns c =
    let first : ((0xdeadbeef + c.args.len % 2 ^ 32) % 2 ^ 32 + c.args.pc) % 2 ^ 32 ≡ (0xdeadbeef + c.args.len + c.args.pc) % 2 ^ 32
    = omega arith in
    ap (λ (x : ℕ). x ∷ x ∷ (x + c.args.pb) % 2 ^ 32 ∷ []) first
