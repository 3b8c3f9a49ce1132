use Rattle.hash_lines.proofs.Common.{◌≡◌, ◌+◌, ◌*◌, ◌/◌, ◌%◌, ◌≤◌, ◌∷◌, [], ◌++◌, inl, inr, length, length-drop, length-take-le, take, drop, ap, ◌∙◌, arith, take-add, div-add-mod', cases_lt, fold-append, cut, nat_tests, common_steps}
use Rattle.std.proofs.Math.Nat.{add-mod_right}
use Rattle.hashers.proofs.ReadingLemmas.{cut_more}
use Rattle.hash_lines.proofs.sums.in_pieces.Goals as goal

pub loop-done-preserved : goal.loop-done-preserved
loop-done-preserved g c =
    let after = g.H.Piecewise.after in
    let text = c.args.text.now in
    let done = c.loop-done.done in
    let count = c.min-count.result in
    let before = c.loop-done.invariant in
    let more = c.loop-done-test.true in
    let piece = take count (drop done text) in
    let whole : done % 4096 ≡ 0 = elim before.whole [ inl is ↦ is | inr end ↦ absurd (omega (arith, more, end)) ] in
    let fits : count ≤ length (drop done text) = omega (arith, c.min-count.ensures, length-drop done text) in
    let len : length piece ≡ count = length-take-le count (drop done text) fits in
    let pieces : length (take done text) ≡ done / 4096 * 4096 =
    omega (arith, length-take-le done text before.within, div-add-mod' done 4096, whole) in
    let cuts : cut 4096 (take (done + count) text) ≡ cut 4096 (take done text) ++ piece ∷ [] =
    ap (cut 4096) (take-add done count text)
    ∙ cut_more 4096 (done / 4096) (take done text) piece (omega arith) pieces (omega (arith, len, c.min-count.ensures, more))
    (omega (arith, len, c.min-count.ensures)) in
    grind (arith, nat_tests, common_steps, fold-append, cases_lt, add-mod_right)
