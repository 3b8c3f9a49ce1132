use Rattle.hashsum_core.proofs.Common.{◌≡◌, [], take, map, writer_buffer, writer_contents, AreListed}
use Rattle.hashsum_core.proofs.check.check_lists.Given as goal

-- the lists so far ended, and nothing of them is held back
abbrev pub invariant-loop-list : goal.invariant-loop-list
invariant-loop-list g l = record {
  told : AreListed l.kinds l.checking (g.F.Folder.opens l.folder) (take l.list-index (map (λ n. n.now) l.lists))
      (writer_contents g.W.Write.contents l.fn.w) (writer_contents g.W.Write.contents l.w) l.all;
  flushed : writer_buffer l.fn.w ≡ [] → writer_buffer l.w ≡ [];
}
