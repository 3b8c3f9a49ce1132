use Rattle.hash_names.specs.Named.{named}
use Rattle.hashof.specs.Running.{run_of}
use Rattle.hashof.proofs.Endings.{ended_unread, ended_told}
use Rattle.hashof.proofs.run.run_limited.Goals as goal
use Rattle.std.proofs.Common.{rules}

pub returns-in-Err : goal.returns-in-Err
returns-in-Err g c =
    let run = run_of c.args.limit g.R.Read.remaining c.args.r.now c.hash_named.new.r g.W.Write.contents c.args.w.now c.args.w.now in
    rw c.fault_of.ensures (ended_unread (named c.args.name.now) run c.in-Err.why c.in-Err.ensures (search rules))

pub returns-in-Ok : goal.returns-in-Ok
returns-in-Ok g c =
    let run = run_of c.args.limit g.R.Read.remaining c.args.r.now c.hash_named.new.r g.W.Write.contents c.args.w.now c.write_line.new.w in
    ended_told (named c.args.name.now) run c.in-Ok.hash c.write_line.result c.in-Ok.ensures c.write_line.ensures
