-- passthrough from 0 is the number of the last eight bytes.
use Rattle.hash_bytes.proofs.Common.{ℕ, ◌≡◌, ◌+◌, ◌*◌, ◌-◌, ◌%◌, ◌^◌, ◌<◌, ◌≤◌, List, length, drop, ap, sym, ◌∙◌, arith, lit<, ⊎_elim, mod-eq_of_lt, pow-le-pow_right, digit_sum, passthrough_from, digit_sum-lt, passthrough_of_last}
use Rattle.std.proofs.lemmas.Bool.{cases_lt}
use Rattle.hash_laws.specs.Text.{IsText}

few : (t : List ℕ) → IsText t → length t < 8 → passthrough_from 0 t ≡ digit_sum 256 (drop (length t - 8) t)
unfolding passthrough_from
few t bytes small =
    let none : length t - 8 ≡ 0 = omega arith in
    let shorter : length t ≤ 8 = omega arith in
    let below : digit_sum 256 t < 2 ^ 64 = omega (arith, digit_sum-lt 256 t bytes, pow-le-pow_right {n = 256} (lit< tt) shorter) in
    let start : 0 * 256 ^ length t + digit_sum 256 t ≡ digit_sum 256 t = omega arith in
    ap (λ n. n % 2 ^ 64) start ∙ mod-eq_of_lt below ∙ ap (λ n. digit_sum 256 (drop n t)) (sym none)

pub passthrough-last : (t : List ℕ) → IsText t → passthrough_from 0 t ≡ digit_sum 256 (drop (length t - 8) t)
passthrough-last t bytes = ⊎_elim (few t bytes) (λ more. passthrough_of_last 0 t (omega (arith, more)) bytes) (cases_lt (length t) 8)
