use Rattle.hash_writes.proofs.Common.{ap, sym, ◌∙◌, written}
use Rattle.hash_writes.proofs.writes.make.Goals as goal

-- what is written is fed
pub returns-in-Bytes-clause-state : goal.returns-in-Bytes-clause-state
returns-in-Bytes-clause-state g c =
    let H = g.H.Piecewise in
    c.write_bytes.ensures.state ∙ ap (λ write. H.after (H.state c.args.h.now) (written write)) (sym c.in-Bytes.is)

pub returns-in-U8-clause-state : goal.returns-in-U8-clause-state
returns-in-U8-clause-state g c = rw (c.write_u8.ensures, c.in-U8.is) (g.met.H.Piecewise.write_feeds _ _)

pub returns-in-U16-clause-state : goal.returns-in-U16-clause-state
returns-in-U16-clause-state g c = rw (c.write_u16.ensures, c.in-U16.is) (g.met.H.Piecewise.write_feeds _ _)

pub returns-in-U32-clause-state : goal.returns-in-U32-clause-state
returns-in-U32-clause-state g c = rw (c.write_u32.ensures, c.in-U32.is) (g.met.H.Piecewise.write_feeds _ _)

pub returns-in-U64-clause-state : goal.returns-in-U64-clause-state
returns-in-U64-clause-state g c = rw (c.write_u64.ensures, c.in-U64.is) (g.met.H.Piecewise.write_feeds _ _)

pub returns-in-Usize-clause-state : goal.returns-in-Usize-clause-state
returns-in-Usize-clause-state g c = rw (c.write_usize.ensures, c.in-Usize.is) (g.met.H.Piecewise.write_feeds _ _)
