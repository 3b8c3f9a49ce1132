-- What the rule of XXH64 cites: the lanes are those of the definition, and of the length only the low 64 bits count.
use Rattle.std.proofs.Common.{◌≡◌, ℕ, ◌%◌, ◌^◌, ◌<◌, ◌≤◌, Bool, true, false, cond, nat_lt, List, length, slice_index, refl, ap, arith, lit<}
use Rattle.std.proofs.lemmas.Bool.Decides.{nat_tests}
use Rattle.hash_words.specs.Words.{add}
use Rattle.hash_blocks.specs.Blocks.{blocks, tail}
use Rattle.hash_blocks.specs.BlocksLaws.{blocks_short, blocks_some, blocks_seen}
use Rattle.hash_blocks.specs.Xxh64.{p5, start, after_block, converged, rest_in, last_mix, xxh64}
use Rattle.hash_blocks.specs.Xxh64Rule.{started, block_in, finished}
use Rattle.hash_blocks.specs.declared.xxhash.at_64.Lanes.{Lanes}

pub total_wraps : (s : Lanes) (left : List ℕ) (total : ℕ) → finished s left (total % 2 ^ 64) ≡ finished s left total
total_wraps s left total =
    let h = cond s.long (converged s.lanes) (add 64 (slice_index s.lanes 2) p5) in
    let low : add 64 h (total % 2 ^ 64) ≡ add 64 h total = omega arith in
    ap (λ (x : ℕ). last_mix (rest_in x left)) low

third-start : (seed : ℕ) → slice_index (start seed) 2 ≡ seed
unfolding start
third-start seed = refl

module _ (seed : ℕ) (text : List ℕ) where
  by_length : (b : Bool) → nat_lt (length text) 32 ≡ b
      → xxh64 seed text ≡ finished (blocks 32 block_in (started seed) text) (tail 32 text) (length text)
  by_length true short =
      let few : length text < 32 = grind (arith, nat_tests) in
      rw (short, blocks_short 32 (lit< tt) block_in (started seed) text few, third-start seed) refl
  by_length false long =
      let many : 32 ≤ length text = grind (arith, nat_tests) in
      rw (
        long,
        blocks_some 32 (lit< tt) block_in (λ (s : Lanes). s.long ≡ true) (λ s b. refl) (started seed) text many,
        blocks_seen 32 (lit< tt) block_in after_block (λ (s : Lanes). s.lanes) (λ s b. refl) (started seed) text,
      ) refl

  pub is_hash : xxh64 seed text ≡ finished (blocks 32 block_in (started seed) text) (tail 32 text) (length text)
  is_hash = by_length (nat_lt (length text) 32) refl
