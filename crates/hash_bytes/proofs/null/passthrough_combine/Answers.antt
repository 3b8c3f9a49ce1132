use Rattle.hash_bytes.proofs.Common.{◌≡◌, ◌+◌, sym, ◌∙◌, arith}
use Rattle.hash_bytes.proofs.Joined.{passthrough_joined, passthrough_moved, passthrough_gone}
use Rattle.hash_bytes.proofs.null.passthrough_combine.Goals as goal
use Rattle.hash_bytes.proofs.null.passthrough_combine.Goals.{then-length2-lt8, else-length2-lt8}

pub returns-clause-value : goal.returns-clause-value
returns-clause-value c = elim c.if-length2-lt8.branch [
  | then-length2-lt8 w ↦ rw w.first-is (passthrough_moved c.args.hash1 c.args.hash2 c.args.length2)
  | else-length2-lt8 w ↦
      let none : 0 + c.args.hash2 ≡ c.args.hash2 = omega arith in
      rw (w.first-is, none) (passthrough_gone c.args.hash1 c.args.hash2 c.args.length2 w.if-length2-lt8.false)
]

pub returns-clause-joined : goal.returns-clause-joined
returns-clause-joined c = λ x y long first second. returns-clause-value c ∙ rw (first, second, sym long) (sym (passthrough_joined x y))
