-- SipHash's rounds and words taken back.
use Rattle.std.specs.Prelude.{ℕ, zero, suc, List, []}
use Rattle.hash_rounds.specs.Steps.{apply, undo}
use Rattle.hash_blocks.specs.SipHash.{round_steps, xored}

-- so many rounds taken back
unfoldable pub unrounds : ℕ → List ℕ → List ℕ
unrounds zero v = v
unrounds (suc n) v = apply 64 (undo 64 round_steps) [] (unrounds n v)

-- the state before one word
unfoldable pub before_word : ℕ → List ℕ → ℕ → List ℕ
before_word c v word = xored 0 0 0 word (unrounds c (xored word 0 0 0 v))
