-- What the rule of XXH32 cites: the lanes are those of the definition, and of the length only the low 32 bits count.
use Rattle.std.proofs.Common.{◌≡◌, ℕ, ◌%◌, ◌^◌, ◌<◌, ◌≤◌, Bool, true, false, cond, nat_lt, List, length, slice_index, refl, ap, arith, lit<}
use Rattle.std.proofs.lemmas.Bool.Decides.{nat_tests}
use Rattle.hash_words.specs.Words.{add}
use Rattle.hash_blocks.specs.Blocks.{blocks, tail}
use Rattle.hash_blocks.specs.BlocksLaws.{blocks_short, blocks_some, blocks_seen}
use Rattle.hash_blocks.specs.Xxh32.{q5, start, after_block, converged, rest_in, last_mix, xxh32}
use Rattle.hash_blocks.specs.Xxh32Rule.{started, block_in, finished}
use Rattle.hash_blocks.specs.declared.xxhash.at_32.Lanes32.{Lanes32}

pub total_wraps : (s : Lanes32) (left : List ℕ) (total : ℕ) → finished s left (total % 2 ^ 64) ≡ finished s left total
total_wraps s left total =
    let h = cond s.long (converged s.lanes) (add 32 (slice_index s.lanes 2) q5) in
    let low : add 32 h (total % 2 ^ 64) ≡ add 32 h total = omega arith in
    ap (λ (x : ℕ). last_mix (rest_in x left)) low

third-start : (seed : ℕ) → slice_index (start seed) 2 ≡ seed
unfolding start
third-start seed = refl

module _ (seed : ℕ) (text : List ℕ) where
  by_length : (b : Bool) → nat_lt (length text) 16 ≡ b
      → xxh32 seed text ≡ finished (blocks 16 block_in (started seed) text) (tail 16 text) (length text)
  by_length true short =
      let few : length text < 16 = grind (arith, nat_tests) in
      rw (short, blocks_short 16 (lit< tt) block_in (started seed) text few, third-start seed) refl
  by_length false long =
      let many : 16 ≤ length text = grind (arith, nat_tests) in
      rw (
        long,
        blocks_some 16 (lit< tt) block_in (λ (s : Lanes32). s.long ≡ true) (λ s b. refl) (started seed) text many,
        blocks_seen 16 (lit< tt) block_in after_block (λ (s : Lanes32). s.lanes) (λ s b. refl) (started seed) text,
      ) refl

  pub is_hash : xxh32 seed text ≡ finished (blocks 16 block_in (started seed) text) (tail 16 text) (length text)
  is_hash = by_length (nat_lt (length text) 16) refl
