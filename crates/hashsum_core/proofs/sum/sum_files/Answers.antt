use Rattle.hashsum_core.proofs.Common.{◌+◌, ◌&&◌, ◌∷◌, ◌++◌, [], ℕ, List, Option, map, take, drop, get_or, is_some, ap, sym, Bor, IsSummed, line_told, names_more, names_rest, told_next, torn_within}
use Rattle.hashsum_core.proofs.sum.sum_files.Goals as goal

pub returns-in-Err-clause-told : goal.returns-in-Err-clause-told
returns-in-Err-clause-told g c =
    let d : Bor (List ℕ) = record { ref_ptr = (0, 0); now = [] } in
    let i = c.loop-name.name-index in
    let names = c.args.names.now in
    let (told, so_far) = c.loop-name.invariant.told in
    let (number, summed, part) = c.in-Err.ensures.told in
    torn_within (λ (file : List ℕ × Option ℕ). file.0) (IsSummed c.args.summing (g.F.Folder.opens c.args.folder.now))
    (line_told c.args.summing) (λ file. is_some file.1) (take i (map (λ n. n.now) names)) (drop (i + 1) (map (λ n. n.now) names)) _ told
    _ _ _ c.loop-name.whole ((get_or names i d).now, number) so_far summed part
    (names_rest (λ (n : Bor (List ℕ)). n.now) names i d c.loop-name-test.true)

pub loop-name-preserved : goal.loop-name-preserved
loop-name-preserved g c =
    let d : Bor (List ℕ) = record { ref_ptr = (0, 0); now = [] } in
    let i = c.loop-name.name-index in
    let names = c.args.names.now in
    let (told, so_far) = c.loop-name.invariant.told in
    let (number, summed, appends, is) = c.in-Ok.ensures.told in
    record {
      told = (
        told ++ ((get_or names i d).now, number) ∷ [],
        told_next (λ (file : List ℕ × Option ℕ). file.0) (IsSummed c.args.summing (g.F.Folder.opens c.args.folder.now))
            (line_told c.args.summing) (λ file. is_some file.1) (take i (map (λ n. n.now) names)) _ told _ _ _ c.loop-name.whole _
            ((get_or names i d).now, number) so_far summed appends
            (sym (names_more (λ (n : Bor (List ℕ)). n.now) names i d c.loop-name-test.true)) (ap (λ b. c.loop-name.whole && b) (sym is)),
      );
      flushed = λ empty. c.in-Ok.ensures.flushed (c.loop-name.invariant.flushed empty);
    }
