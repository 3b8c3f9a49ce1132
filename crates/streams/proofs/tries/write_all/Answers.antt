use Rattle.std.proofs.Common.{take, ◌++◌}
use Rattle.std.proofs.KnownBytes.{Appends-trans}
use Rattle.streams.proofs.StreamLemmas.{taken_more}
use Rattle.streams.proofs.tries.write_all.Goals as goal

pub loop-rest-preserved-in-Ok : goal.loop-rest-preserved-in-Ok
loop-rest-preserved-in-Ok g c =
    let before = c.loop-rest in
    let (part, is, appends) = before.invariant in (
      part ++ take c.in-Ok.n before.rest.now,
      taken_more part before.rest.now _ c.in-Ok.n is,
      Appends-trans _ _ _ _ _ appends c.in-Ok.ensures.bytes,
    )
