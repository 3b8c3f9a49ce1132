use Rattle.hash_blocks.proofs.SipCommon.{apply, undo, refl}
use Rattle.hash_blocks.proofs.siphash.rounds.half_unround.Goals as goal

pub returns : goal.returns
unfolding apply undo
returns c = rw (c.rotl64-3.ensures.value, c.rotl64-2.ensures.value, c.rotl64.ensures.value) refl
