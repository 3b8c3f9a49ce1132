use Rattle.hash_jenkins.proofs.Common.{length, take}
use Rattle.std.proofs.lemmas.Bool.Decides.{Decides-eqb}
use Rattle.std.proofs.lemmas.Slice.Eq.{slice_eq-Decides}
use Rattle.hash_jenkins.proofs.FilledLemmas.{take-zero_filled}
use Rattle.hash_jenkins.proofs.zeros.is_filled.Goals as goal

pub returns : goal.returns
returns c =
    let x = c.args.x.now in
    let y = c.args.y.now in
    rw (c.zero_filled-filled.ensures, take-zero_filled (length y) 192 x c.requires.longer c.requires.within) at
    (slice_eq-Decides Decides-eqb y (take (length y) c.zero_filled-filled.result) c.eq.result c.eq.ensures)
