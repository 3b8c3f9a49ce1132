use Rattle.hash_blocks.proofs.SipCommon.{apply, refl}
use Rattle.hash_blocks.proofs.siphash.rounds.half_round.Goals as goal

pub returns : goal.returns
unfolding apply
returns c = rw (c.rotl64-3.ensures.value, c.rotl64-2.ensures.value, c.rotl64.ensures.value) refl
