use Rattle.hash_theorems.proofs.JenkinsCommon.{refl, w64, ◌∙◌, sym, arith, IsText-from_slice, missing, stretch_of}
use Rattle.hash_theorems.proofs.Sums.{bytes_of-text}
use Rattle.hash_theorems.proofs.ShortEven.{found, alone}
use Rattle.hash_theorems.proofs.jenkins.stretch.stretch_for.Goals as goal

pub returns : goal.returns
returns c =
    let seed1 = c.args.seed1 in
    let seed2 = c.args.seed2 in
    let front = c.args.front.now in
    let back = c.args.back.now in
    let got = c.add_chunks-from.result in
    let to = c.un_add_chunks.new.h in
    let leads = found seed1 seed2 front back (omega arith) (omega arith) c.requires.place c.requires.few got c.un_end.new.h to c.args.words
    (rw c.zero_filled-before.ensures at c.add_chunks-from.ensures) c.un_end.ensures (rw c.put.ensures at c.un_add_chunks.ensures)
    (c.un_add_chunks.array_long, c.missing.ensures.words) in
    rw (c.missing.ensures.bytes) (record {
      leads = leads;
      alone = λ stretch text len led.
          alone seed1 seed2 front back (omega arith) (omega arith) c.requires.place c.requires.few (IsText-from_slice back c.type_inv.back)
          stretch (stretch_of (missing got to)) (text, len) (bytes_of-text w64 (missing got to), refl) (led ∙ sym leads);
    })
