use Rattle.cuts_core.proofs.Common.{false}
use Rattle.std.proofs.lemmas.Bool.{false≢true}
use Rattle.cuts_core.proofs.CutLemmas.{ends-early, ends-refused, ends-taken}
use Rattle.cuts_core.proofs.cut.cut_file.Goals as goal

pub returns-in-Ok-cut_reader_by : goal.returns-in-Ok-cut_reader_by
returns-in-Ok-cut_reader_by g c =
    ends-taken g.S.Sink.taken c.args.cuts.now (g.F.Folder.opens c.args.folder.now c.args.name.now)
    (g.R.Read.remaining c.in-Ok.file) (g.R.Read.remaining c.cut_reader_by.new.r) c.args.sink.now c.cut_reader_by.new.sink c.in-Ok-cut_reader_by.taken.bytes
    c.in-Ok.ensures.opens c.in-Ok-cut_reader_by.taken.ended c.in-Ok-cut_reader_by.ensures.all c.in-Ok-cut_reader_by.ensures.first

pub returns-in-Err-Unread : goal.returns-in-Err-Unread
returns-in-Err-Unread g c =
    let (bytes, rest, refused, within, why, read) = c.in-Err-Unread.ensures.fault in
    let breaks = rw c.in-Err-Unread.field-0-is at why in
    ends-taken g.S.Sink.taken _ _ _ _ _ _ bytes c.in-Ok.ensures.opens false (λ is. absurd (false≢true is))
    (λ is. (rest, breaks.1, rw breaks.2 at read))

pub returns-in-Err-Refused : goal.returns-in-Err-Refused
returns-in-Err-Refused g c =
    let (bytes, rest, refused, within, why, read) = c.in-Err-Refused.ensures.fault in
    let breaks = rw c.in-Err-Refused.field-0-is at why in
    ends-refused g.S.Sink.taken _ _ _ _ _ _ bytes c.in-Ok.ensures.opens _ rest breaks.0 (rw breaks.1 at read)

pub returns : goal.returns
returns g c =
    let (bytes, rest, refused, within, why, read) = c.in-Err-NoMemory.ensures.fault in
    let breaks = rw c.in-Err-NoMemory.field-0-is at why in
    ends-early g.S.Sink.taken _ _ _ _ _ _ bytes c.in-Ok.ensures.opens rest breaks.0 (rw breaks.1 at read)
