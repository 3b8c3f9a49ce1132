use Rattle.hashsum_core.proofs.Common.{◌≡◌, ℕ, Option, List, [], take, map, is_some, writer_buffer, writer_contents, AreTold, IsSummed, line_told}
use Rattle.hashsum_core.proofs.sum.sum_files.Given as goal

-- the lines of the files so far are written, and not held back
abbrev pub invariant-loop-name : goal.invariant-loop-name
invariant-loop-name g l = record {
  told : (told : List (List ℕ × Option ℕ))
      × AreTold (λ file. file.0) (IsSummed l.summing (g.F.Folder.opens l.folder)) (line_told l.summing) (λ file. is_some file.1)
      (take l.name-index (map (λ n. n.now) l.names)) told (writer_contents g.W.Write.contents l.fn.w)
      (writer_contents g.W.Write.contents l.w) l.whole;
  flushed : writer_buffer l.fn.w ≡ [] → writer_buffer l.w ≡ [];
}
