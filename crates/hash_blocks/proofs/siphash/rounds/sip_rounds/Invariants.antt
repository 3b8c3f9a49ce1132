use Rattle.hash_blocks.proofs.SipCommon.{◌≡◌, rounds}
use Rattle.hash_blocks.proofs.siphash.rounds.sip_rounds.Given as goal

abbrev pub invariant-loop-turn : goal.invariant-loop-turn
invariant-loop-turn g l = l.v ≡ rounds l._turn l.initial.v
