-- The hash of 128 bits at a position is that of the text.
use Rattle.std.proofs.Common.{◌≡◌, ℕ, ◌-◌, ◌%◌, ◌≤◌, ◌^◌, nat_lt, Bool, true, false, List, length, refl, ap, ◌∙◌, arith}
use Rattle.std.proofs.Math.Path.{ap₂}
use Rattle.std.proofs.lemmas.Nat.{mul-mod_first}
use Rattle.std.proofs.lemmas.Bool.Decides.{nat_tests}
use Rattle.hash_xxh3.specs.Long.{secret_of, merge}
use Rattle.hash_xxh3.specs.Streaming.{Position, advanced, long_position, position}
use Rattle.hash_xxh3.specs.StreamingLaws.{end_words-position}
use Rattle.hash_xxh3.specs.Wide.{wide_end_long, wide_under, wide_long, wide_hash, xxh3_128_of}

-- the length counts modulo 2 ^ 64
length_counts : (secret words : List ℕ) (n : ℕ) → wide_end_long secret words (n % 2 ^ 64) ≡ wide_end_long secret words n
unfolding wide_end_long
length_counts secret words n =
    ap₂ (λ (a b : ℕ). (merge words secret 11 a, merge words secret 117 (2 ^ 64 - 1 - b)))
    (mul-mod_first n 0x9e3779b185ebca87 (2 ^ 64)) (mul-mod_first n 0xc2b2ae3d27d4eb4f (2 ^ 64))

module _ (seed : ℕ) (m : List ℕ) where
  hash_long : 241 ≤ length m → wide_hash (long_position seed m) ≡ wide_long seed m
  unfolding advanced wide_under
  hash_long above =
      let n = length m in
      length_counts (secret_of seed) _ n ∙ ap (λ (w : List ℕ). wide_end_long (secret_of seed) w n) (end_words-position seed m above)

  hash_by_length : (b : Bool) → nat_lt (length m) 241 ≡ b → wide_hash (position seed m) ≡ xxh3_128_of seed m
  unfolding xxh3_128_of
  hash_by_length true short = rw short refl
  hash_by_length false long = rw long (hash_long (grind (arith, nat_tests)))

  pub wide_hash-position : wide_hash (position seed m) ≡ xxh3_128_of seed m
  wide_hash-position = hash_by_length (nat_lt (length m) 241) refl

pub wide_hash_of_text : (at : Position) (h : ℕ × ℕ) → h ≡ wide_hash at → (seed : ℕ) (text : List ℕ) → at ≡ position seed text
    → h ≡ xxh3_128_of seed text
wide_hash_of_text at h value seed text there = value ∙ ap wide_hash there ∙ wide_hash-position seed text
