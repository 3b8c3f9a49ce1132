use Rattle.hash_writes.proofs.Common.{ap, subst, sym, ◌∙◌, le_bytes-16, le_bytes-32, le_bytes-64, written, IsTakenOut}
use Rattle.hash_writes.proofs.writes.take_back.Goals as goal

-- the bytes that are taken out are those of the write
pub returns-in-Bytes : goal.returns-in-Bytes
returns-in-Bytes g c =
    let H = g.H.Piecewise in
    subst (IsTakenOut H.in_range H.after (H.state c.args.h.now) (H.state c.unwrite_bytes.new.h)) (ap written (sym c.in-Bytes.is))
    c.unwrite_bytes.ensures

pub returns-in-U8 : goal.returns-in-U8
returns-in-U8 g c =
    let H = g.H.Piecewise in
    subst (IsTakenOut H.in_range H.after (H.state c.args.h.now) (H.state c.unwrite_bytes-in-U8.new.h))
    (ap written (sym c.in-U8.is)) c.unwrite_bytes-in-U8.ensures

pub returns-in-U16 : goal.returns-in-U16
returns-in-U16 g c =
    let H = g.H.Piecewise in
    subst (IsTakenOut H.in_range H.after (H.state c.args.h.now) (H.state c.unwrite_bytes-in-U16.new.h))
    (c.to_le_bytes.ensures ∙ sym (le_bytes-16 c.in-U16.value) ∙ ap written (sym c.in-U16.is)) c.unwrite_bytes-in-U16.ensures

pub returns-in-U32 : goal.returns-in-U32
returns-in-U32 g c =
    let H = g.H.Piecewise in
    subst (IsTakenOut H.in_range H.after (H.state c.args.h.now) (H.state c.unwrite_bytes-in-U32.new.h))
    (c.to_le_bytes-in-U32.ensures ∙ sym (le_bytes-32 c.in-U32.value) ∙ ap written (sym c.in-U32.is)) c.unwrite_bytes-in-U32.ensures

pub returns-in-U64 : goal.returns-in-U64
returns-in-U64 g c =
    let H = g.H.Piecewise in
    subst (IsTakenOut H.in_range H.after (H.state c.args.h.now) (H.state c.unwrite_bytes-in-U64.new.h))
    (c.to_le_bytes-in-U64.ensures ∙ sym (le_bytes-64 c.in-U64.value) ∙ ap written (sym c.in-U64.is)) c.unwrite_bytes-in-U64.ensures

pub returns-in-Usize : goal.returns-in-Usize
returns-in-Usize g c =
    let H = g.H.Piecewise in
    subst (IsTakenOut H.in_range H.after (H.state c.args.h.now) (H.state c.unwrite_bytes-in-Usize.new.h))
    (c.to_le_bytes-in-Usize.ensures ∙ sym (le_bytes-64 c.in-Usize.value) ∙ ap written (sym c.in-Usize.is)) c.unwrite_bytes-in-Usize.ensures
