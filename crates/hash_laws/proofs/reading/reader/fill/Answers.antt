use Rattle.std.proofs.Common.{◌-◌, length, rules}
use Rattle.std.proofs.KnownBytes.{Consumes-trans}
use Rattle.hash_laws.proofs.ReadingLemmas.{take-put}
use Rattle.hash_laws.proofs.reading.reader.fill.Goals as goal

-- what was read stands behind what stood there
pub loop-filled-preserved : goal.loop-filled-preserved
loop-filled-preserved g c =
    let before = c.loop-filled in
    let room = length before.buf - before.filled in
    record {
      within = search rules;
      read = rw (take-put before.filled room c.in-Ok.n before.buf c.read.new.buf before.invariant.within c.in-Ok.ensures.bound.0)
          (Consumes-trans _ _ _ _ _ before.invariant.read c.in-Ok.ensures.bytes.0);
    }
