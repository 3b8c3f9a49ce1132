use Rattle.hash_blocks.proofs.SipCommon.{refl, made, half_round, round_table, round_steps}
use Rattle.hash_blocks.proofs.siphash.rounds.sip_round.Goals as goal

pub returns : goal.returns
unfolding round_steps
returns c =
    let both = made 64 half_round round_table _ c.half_round-2.new.v c.told-v c.fits-v refl (cc) in
    record { round = both.0; undone = both.1 }
