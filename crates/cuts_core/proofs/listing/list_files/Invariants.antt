use Rattle.cuts_core.proofs.Common.{◌≡◌, List, [], take, map, Cut, IsFileCut, is_whole, name_of, lines_of, writer_buffer, writer_contents, AreTold}
use Rattle.cuts_core.proofs.listing.list_files.Given as goal

-- the lines of the files so far are written, and not held back
abbrev pub invariant-loop-name : goal.invariant-loop-name
invariant-loop-name g l =
    let contents = writer_contents g.W.Write.contents in
    record {
      kind : l.lines.kind ≡ l.fn.kind;
      told : (told : List Cut) × AreTold name_of (IsFileCut l.cuts (g.F.Folder.opens l.folder)) (lines_of l.fn.kind) is_whole
          (take l.name-index (map (λ n. n.now) l.names)) told (contents l.fn.lines.w) (contents l.lines.w) l.all;
      flushed : writer_buffer l.fn.lines.w ≡ [] → writer_buffer l.lines.w ≡ [];
    }
