-- What a caller's state of a hash by the block stands for after more bytes.
use Rattle.hash_c.proofs.Common.{ℕ, ◌≡◌, ◌+◌, ◌%◌, ◌^◌, ◌<◌, List, ◌++◌, length, take, refl, ap, ◌∙◌, same_position, after-position}
use Rattle.hash_blocks.specs.Blocks.{blocks, tail, Position, position, position_of, after}

module _ {S : Type 0} (n : ℕ) (some : 0 < n) (block : S → List ℕ → S) where
  -- it stands behind the longer text
  pub stands_on : (start old new : S) (text bytes buffer buffer' : List ℕ) (kept kept' len : ℕ)
      → new ≡ blocks n block old (take kept buffer ++ bytes) → take kept' buffer' ≡ tail n (take kept buffer ++ bytes)
      → position_of old buffer kept len ≡ position n block start text
      → position_of new buffer' kept' ((len + length bytes) % 2 ^ 64) ≡ position n block start (text ++ bytes)
  stands_on start old new text bytes buffer buffer' kept kept' len mixed left there =
      same_position n some block _ (after n block (position_of old buffer kept len) bytes) mixed left refl
      ∙ ap (λ (at : Position S). after n block at bytes) there ∙ after-position n some block start text bytes
