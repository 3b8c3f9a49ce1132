use Rattle.hashsum_core.proofs.Common.{◌≡◌, List, ◌∷◌, ap₂, Choice, arith, nat_tests, common_steps}
use Rattle.hashsum_core.proofs.outcome.options.Goals as goal

-- one more of the list
next : {x y : Choice} {xs ys : List Choice} → x ≡ y → xs ≡ ys → x ∷ xs ≡ y ∷ ys
next one more = ap₂ (λ (c : Choice) cs. c ∷ cs) one more

pub returns : goal.returns
returns c =
    next c.taking.ensures.choice (
    next c.taking-2.ensures.choice (
    next c.flag.ensures.choice (
    next c.flag-2.ensures.choice (
    next c.flag-3.ensures.choice (
    next c.flag-4.ensures.choice (
    next c.flag-5.ensures.choice (
    grind (arith, nat_tests, common_steps, next))))))))
