use Rattle.hash_blocks.proofs.SipCommon.{refl, unmade, half_round, round_table, round_steps}
use Rattle.hash_blocks.proofs.siphash.rounds.sip_unround.Goals as goal

pub returns : goal.returns
unfolding round_steps
returns c =
    let both = unmade 64 half_round round_table _ c.half_unround-2.new.v c.told-v c.fits-v refl (cc) in
    record { round = both.0; undone = both.1 }
