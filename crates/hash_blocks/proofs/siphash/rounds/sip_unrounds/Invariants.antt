use Rattle.hash_blocks.proofs.SipCommon.{◌≡◌, unrounds}
use Rattle.hash_blocks.proofs.siphash.rounds.sip_unrounds.Given as goal

abbrev pub invariant-loop-turn : goal.invariant-loop-turn
invariant-loop-turn g l = l.v ≡ unrounds l._turn l.initial.v
