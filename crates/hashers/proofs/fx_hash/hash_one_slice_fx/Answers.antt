use Rattle.hash_fx.proofs.Common.{◌∙◌, arith}
use Rattle.hash_fx.proofs.FixedWidths.{fx64_slice}
use Rattle.hashers.proofs.fx_hash.hash_one_slice_fx.Goals as goal

pub returns : goal.returns
returns c = c.hash_one_slice_in_writes.ensures ∙ fx64_slice _ c.args.key.now (omega arith)
