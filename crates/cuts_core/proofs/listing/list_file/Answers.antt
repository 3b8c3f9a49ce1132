use Rattle.cuts_core.proofs.Common.{◌≡◌, [], refl, ListsChunks, writer_buffer, writer_contents}
use Rattle.cuts_core.proofs.CutLemmas.{after_all, after_any}
use Rattle.cuts_core.proofs.ListingLemmas.{ends_lines, listed_none}
use Rattle.cuts_core.proofs.listing.list_file.Goals as goal

pub returns-clause-kind : goal.returns-clause-kind
returns-clause-kind g c =
    let lines = c.args.lines.now in
    after_any (ListsChunks g.W.Write.contents) c.args.cuts.now (g.F.Folder.opens c.args.folder.now c.args.name.now) _ c.cut_file.new.sink
    (refl, refl, listed_none lines.kind c.args.name.now 0 (writer_contents g.W.Write.contents lines.w), λ none empty. empty) _
    (λ given refused holds. holds.0) c.cut_file.result c.cut_file.ensures

pub returns-clause-listed : goal.returns-clause-listed
returns-clause-listed g c =
    let lines = c.args.lines.now in
    let new = c.cut_file.new.sink in
    let contents = writer_contents g.W.Write.contents in
    ends_lines (ListsChunks g.W.Write.contents) lines.kind c.args.cuts.now (g.F.Folder.opens c.args.folder.now) c.args.name.now _ new
    (contents lines.w) (contents new.w) new.place
    (refl, refl, listed_none lines.kind c.args.name.now 0 (contents lines.w), λ none empty. empty)
    (λ given refused holds. holds.2) c.cut_file.result c.cut_file.ensures

pub returns-clause-flushed : goal.returns-clause-flushed
returns-clause-flushed g c =
    let lines = c.args.lines.now in
    let new = c.cut_file.new.sink in
    after_all (ListsChunks g.W.Write.contents) c.args.cuts.now (g.F.Folder.opens c.args.folder.now c.args.name.now) _ new
    (refl, refl, listed_none lines.kind c.args.name.now 0 (writer_contents g.W.Write.contents lines.w), λ none empty. empty)
    (writer_buffer lines.w ≡ [] → writer_buffer new.w ≡ []) (λ given holds. holds.3 refl) c.cut_file.result c.cut_file.ensures
