-- Up to eight bytes by the first four and the last four, or by the last eight of more.
use Rattle.std.proofs.lemmas.Grind.{common_steps}
use Rattle.std.proofs.lemmas.Bool.Decides.{nat_tests}
use Rattle.hash_map_keys.proofs.Common.{All-drop, All-take, IsText, List, [], add_comm, ap, arith, drop, drop-drop, le-append, le-power, length, length-drop, length-take-le, lit<, shr_high, sym, take, take-append-drop, ℕ, ◌%◌, ◌*◌, ◌+◌, ◌-◌, ◌/◌, ◌^◌, ◌∙◌, ◌∷◌, ◌≡◌, ◌≤◌}
use Rattle.hash_words.specs.Words.{le}

-- four to eight bytes by the first four and the last four
pub by_fours : (t : List ℕ) → IsText t → 4 ≤ length t → length t ≤ 8
    → le (take 4 t) + le (drop (length t - 4) t) / 2 ^ (64 - 8 * length t) * 2 ^ 32 % 2 ^ 64 ≡ le t
unfolding le
by_fours (a ∷ b ∷ c ∷ d ∷ []) are some few = omega (arith, are 0 0 (lit< tt), are 1 0 (lit< tt), are 2 0 (lit< tt), are 3 0 (lit< tt))
by_fours (a ∷ b ∷ c ∷ d ∷ e ∷ []) are some few =
    omega (arith, are 1 0 (lit< tt), are 2 0 (lit< tt), are 3 0 (lit< tt), are 4 0 (lit< tt))
by_fours (a ∷ b ∷ c ∷ d ∷ e ∷ f ∷ []) are some few =
    omega (arith, are 2 0 (lit< tt), are 3 0 (lit< tt), are 4 0 (lit< tt), are 5 0 (lit< tt))
by_fours (a ∷ b ∷ c ∷ d ∷ e ∷ f ∷ g ∷ []) are some few =
    omega (arith, are 3 0 (lit< tt), are 4 0 (lit< tt), are 5 0 (lit< tt), are 6 0 (lit< tt))
by_fours (a ∷ b ∷ c ∷ d ∷ e ∷ f ∷ g ∷ h ∷ []) are some few =
    omega (arith, are 4 0 (lit< tt), are 5 0 (lit< tt), are 6 0 (lit< tt), are 7 0 (lit< tt))
by_fours other are some few = absurd (omega arith)

pub of_last : (t : List ℕ) (k : ℕ) → IsText t → 8 ≤ length t → k ≤ 8 → le (drop (length t - 8) t) / 2 ^ (64 - 8 * k) ≡ le (drop (length t - k) t)
of_last t k are long few =
    let last = drop (length t - 8) t in
    let front = take (8 - k) last in
    let back = drop (8 - k) last in
    let front_long : length front ≡ 8 - k = length-take-le (8 - k) last (omega (arith, length-drop (length t - 8) t, long)) in
    let bits : 8 * length front ≡ 64 - 8 * k = omega (arith, front_long, few) in
    let whole : le last ≡ le back * 2 ^ (64 - 8 * k) + le front =
    ap le (sym (take-append-drop (8 - k) last)) ∙ le-append front back ∙ add_comm (le front) (le back * 2 ^ (8 * length front))
    ∙ ap (λ n. le back * 2 ^ n + le front) bits in
    grind (arith, nat_tests, common_steps, All-take, All-drop, shr_high, le-power, drop-drop)
