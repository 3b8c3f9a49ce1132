use Rattle.dedup_core.proofs.Lemmas.{◌-◌, ◌<◌, ℕ, Result, Ok, Err, IfOk, take, drop, length, arith, length-take, length-drop, length-take-le, read_put}
use Rattle.dedup_core.proofs.unread.read_behind.Goals as goal

-- what holds of a number by three facts of it
by_three : {E : Type 0} (P Q R S : ℕ → Type 0) (result : Result ℕ E) → ((n : ℕ) → P n → Q n → R n → S n) → IfOk result P → IfOk result Q
    → IfOk result R → IfOk result S
by_three P Q R S (Ok n) all p q r = all n p q r
by_three P Q R S (Err error) all p q r = tt

pub returns-clause-read : goal.returns-clause-read
returns-clause-read g c =
    let room = c.read_some.new.room in
    let bytes = c.args.bytes.now in
    let to = c.args.to in
    let some : 0 < length room =
    omega (arith, c.requires, c.read_some.auto.room, length-take (length bytes - to) (drop to bytes), length-drop to bytes) in
    by_three _ _ _ _ c.read_some.result
    (λ n most read end. (
      (take n room, read_put bytes room to (length bytes - to) n (omega (arith, c.requires)) most, length-take-le n room most, read),
      λ none. end none some,
    ))
    c.read_some.ensures.most c.read_some.ensures.read c.read_some.ensures.end
