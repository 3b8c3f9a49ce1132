use Rattle.std.proofs.Common.{[], append-nil, sym}
use Rattle.std.proofs.KnownBytes.{Appends-kept}
use Rattle.hashof.proofs.line.write_line.Goals as goal

-- a flush keeps what was written
pub returns-in-Ok-flush : goal.returns-in-Ok-flush
returns-in-Ok-flush g c =
    rw c.put_line.ensures at (Appends-kept _ _ _ _ c.in-Ok.ensures.ok c.flush.ensures.bytes)

pub returns-in-Err-flush : goal.returns-in-Err-flush
returns-in-Err-flush g c =
    rw (sym c.put_line.ensures) ((_, [], append-nil _, Appends-kept _ _ _ _ c.in-Ok.ensures.ok c.flush.ensures.bytes), tt)

pub returns-in-Err : goal.returns-in-Err
returns-in-Err g c = rw (sym c.put_line.ensures) (c.in-Err.ensures.err, c.fault_of_write.ensures)
