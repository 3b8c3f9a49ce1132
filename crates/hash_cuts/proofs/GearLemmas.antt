-- The gear hash of a text is the sum of its bytes' numbers, each times a power of two, so that of 64 bytes and more the last 64 count alone.
use Rattle.hash_cuts.proofs.Common.{◌≡◌, ℕ, suc, ◌+◌, ◌-◌, ◌*◌, ◌%◌, ◌^◌, ◌<◌, ◌≤◌, List, [], ◌∷◌, ◌++◌, length, get_or, take, drop, reverse, ap, sym, ◌∙◌, arith, map, refl, pow-suc, drop-take, length-reverse, take-append-drop, map-append, reverse-reverse, reverse_onto, gear_step, gear_of, gear_at, drop-drop, get_or-drop, length-drop, length-take-le, mod_below, nat_tests, common_steps, rules}
use Rattle.hashers.specs.Sums.{digit_sum}
use Rattle.hash_rounds.proofs.SumLemmas.{digit_sum-append}
use Rattle.hashers.specs.Recurrence.{from_last, recurrence}
use Rattle.hashers.proofs.RecurrenceLaws.{recurrence-append, recurrence_more}

module _ (number : ℕ → ℕ) where
  from_last-sum : (s : ℕ) (bytes : List ℕ) → s < 2 ^ 64
      → from_last (gear_step number) s bytes ≡ (2 ^ length bytes * s + from_last (gear_step number) 0 bytes) % 2 ^ 64
  from_last-sum s [] known = omega arith
  from_last-sum s (b ∷ bytes) known =
      let before = from_last-sum s bytes known in
      let further : 2 ^ suc (length bytes) * s ≡ 2 * (2 ^ length bytes * s) = ap (λ p. p * s) (pow-suc 2 (length bytes)) ∙ grind arith in
      omega (arith, before, further)

  -- a start counts by a power of two
  from-sum : (s : ℕ) (text : List ℕ) → s < 2 ^ 64
      → recurrence (gear_step number) s text ≡ (2 ^ length text * s + gear_of number text) % 2 ^ 64
  unfolding recurrence
  from-sum s text known = grind (arith, nat_tests, common_steps, from_last-sum, length-reverse)

  pub gear_of-lt : (text : List ℕ) → gear_of number text < 2 ^ 64
  gear_of-lt text = grind (arith, nat_tests, common_steps, from-sum, mod_below)

  -- the last 64 bytes count alone
  pub gear-last : (before text : List ℕ) → length text ≡ 64 → gear_of number (before ++ text) ≡ gear_of number text
  gear-last before text len = grind (arith, nat_tests, common_steps, gear_of-lt, from-sum, recurrence-append)

  -- so a hash that began 64 bytes before a place, or earlier, is the hash there
  pub gear-rolled : (text : List ℕ) (from n : ℕ) → from + 64 ≤ n → n ≤ length text
      → gear_of number (take (n - from) (drop from text)) ≡ gear_at number text n
  gear-rolled text from n far within =
      let rest = drop from text in
      let skip = n - 64 - from in
      let parts : skip + 64 ≡ n - from = omega arith in
      let place : from + skip ≡ n - 64 = omega arith in
      let last : drop skip (take (n - from) rest) ≡ take 64 (drop (n - 64) text) =
      ap (λ k. drop skip (take k rest)) (sym parts) ∙ drop-take skip 64 rest
      ∙ ap (take 64) (drop-drop skip from text ∙ ap (λ k. drop k text) place) in
      let len : length (take 64 (drop (n - 64) text)) ≡ 64 =
      length-take-le 64 (drop (n - 64) text) (omega (arith, length-drop (n - 64) text)) in
      ap (gear_of number) (sym (take-append-drop skip (take (n - from) rest)))
      ∙ gear-last (take skip (take (n - from) rest)) (drop skip (take (n - from) rest)) (ap length last ∙ len)
      ∙ ap (gear_of number) last

  -- one byte more
  pub gear-more : (text : List ℕ) (from n : ℕ) → from ≤ n → n < length text
      → gear_of number (take (n + 1 - from) (drop from text))
      ≡ gear_step number (gear_of number (take (n - from) (drop from text))) (get_or text n 0)
  gear-more text from n after within = search (rules, recurrence_more, length-drop, get_or-drop)

  from_last-digits : (bytes : List ℕ) → from_last (gear_step number) 0 bytes ≡ digit_sum 2 (map number (reverse bytes)) % 2 ^ 64
  from_last-digits [] = refl
  from_last-digits (b ∷ bytes) =
      let before = from_last-digits bytes in
      grind (arith, nat_tests, common_steps, reverse_onto, map-append, digit_sum-append)

  -- the sum of the numbers, each times a power of two
  pub gear-digits : (text : List ℕ) → gear_of number text ≡ digit_sum 2 (map number text) % 2 ^ 64
  unfolding recurrence
  gear-digits text =
      from_last-digits (reverse text) ∙ ap (λ t. digit_sum 2 (map number t) % 2 ^ 64) (reverse-reverse text)
