use Rattle.hash_cuts.proofs.Common.{◌+◌, ◌-◌, take, arith, length-take-le}
use Rattle.hashers.proofs.ReadingLemmas.{take-put}
use Rattle.hash_cuts.proofs.reader.read_behind.Goals as goal

pub returns-clause-read : goal.returns-clause-read
returns-clause-read g c = (
  take c.fill.result.0 c.fill.new.buf,
  take-put c.args.kept (c.args.kept + c.args.room - c.args.kept) c.fill.result.0 c.args.bytes.now c.fill.new.buf
      (omega (arith, c.requires)) c.fill.ensures.within,
  length-take-le c.fill.result.0 c.fill.new.buf c.fill.ensures.within,
  c.fill.ensures.read,
)
