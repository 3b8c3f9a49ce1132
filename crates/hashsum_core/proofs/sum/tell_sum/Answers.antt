use Rattle.hashsum_core.proofs.Common.{Result, Ok, Err, OnOk, OnErr, Option, List, ℕ, writer_contents, Appends, AppendsPart, WritesOut, Failure, part_none}
use Rattle.hashsum_core.proofs.sum.tell_sum.Goals as goal

-- what stands after a text is put out, by its two cases
puts : {Own : Type 0} (bytes : List ℕ) (w w' : Option (List ℕ)) (result : Result (Unit {0}) (Failure Own)) → WritesOut bytes w w' result
    → OnOk result (Appends w w' bytes) × OnErr result (AppendsPart w w' bytes)
puts bytes w w' (Ok done) out = (out, tt)
puts bytes w w' (Err fault) out = (tt, out.0)

pub returns-in-Ok-clause-ok : goal.returns-in-Ok-clause-ok
returns-in-Ok-clause-ok g c = (puts _ _ _ _ (rw (c.deref.ensures.value, c.in-Ok.ensures) at c.write_out.ensures.told)).0

pub returns-in-Ok-clause-err : goal.returns-in-Ok-clause-err
returns-in-Ok-clause-err g c = (puts _ _ _ _ (rw (c.deref.ensures.value, c.in-Ok.ensures) at c.write_out.ensures.told)).1

pub returns-in-Err-clause-err : goal.returns-in-Err-clause-err
returns-in-Err-clause-err g c = part_none (writer_contents g.W.Write.contents c.args.w.now) _
