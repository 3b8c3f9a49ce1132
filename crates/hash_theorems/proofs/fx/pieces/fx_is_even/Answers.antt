use Rattle.hash_theorems.proofs.FxEven.{even-64, even-32}
use Rattle.hash_theorems.proofs.fx.pieces.fx_is_even.Goals as goal

pub returns : goal.returns
returns c = record { at_64 = even-64; at_32 = even-32 }
