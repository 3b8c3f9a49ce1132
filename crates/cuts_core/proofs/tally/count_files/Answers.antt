use Rattle.cuts_core.proofs.Common.{◌∷◌, ◌++◌, [], ℕ, List, map, take, get_or, subst, sym, ◌∙◌, Cut, CountsMore, IsCounted, Sum, sum_by, all_given, Bor, names_more}
use Rattle.cuts_core.proofs.TallyLemmas.{cut_more, given_more}
use Rattle.cuts_core.proofs.tally.count_files.Goals as goal

pub loop-name-preserved : goal.loop-name-preserved
loop-name-preserved g c =
    let d : Bor (List ℕ) = record { ref_ptr = (0, 0); now = [] } in
    let i = c.loop-name.name-index in
    let names = c.args.names.now in
    let before = c.loop-name.invariant in
    let (files, are_cut, counted) = before.counted in
    let (given, is_cut, more) = c.in_ok-whole.ensures.counted in
    let file : Cut = ((get_or names i d).now, (given, c.in_ok-whole.whole)) in
    let new = c.count_file.new.tally in
    let counts = subst (λ (kind : Sum). CountsMore (sum_by kind) c.loop-name.tally new given) before.kind more in
    record {
      kind = c.in_ok-whole.ensures.kind ∙ before.kind;
      counted = (
        files ++ file ∷ [],
        cut_more c.args.cuts.now (g.F.Folder.opens c.args.folder.now) (take i (map (λ n. n.now) names)) _ files c.loop-name.all file are_cut is_cut
            (sym (names_more (λ (n : Bor (List ℕ)). n.now) names i d c.loop-name-test.true)),
        subst (λ (list : List (List ℕ)). IsCounted (sum_by c.args.tally.now.kind) list new) (sym (given_more files file)) (counts (all_given files) counted),
      );
    }
