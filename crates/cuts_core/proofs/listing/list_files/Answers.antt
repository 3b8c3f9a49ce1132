use Rattle.cuts_core.proofs.Common.{◌+◌, ◌∷◌, ◌++◌, [], ℕ, List, Err, Ok, map, take, drop, get_or, ap, refl, subst, sym, ◌∙◌, Cut, IsFileCut, is_whole, name_of, EndsLines, lines_of, Sum, writer_contents, Bor, AreTold, names_more, names_rest, told_next}
use Rattle.cuts_core.proofs.listing.list_files.Goals as goal

abbrev nothing : Bor (List ℕ)
nothing = record { ref_ptr = (0, 0); now = [] }

pub returns-in-Err-clause-listed : goal.returns-in-Err-clause-listed
returns-in-Err-clause-listed g c =
    let i = c.loop-name.name-index in
    let names = c.args.names.now in
    let opens = g.F.Folder.opens c.args.folder.now in
    let contents = writer_contents g.W.Write.contents in
    let (told, so_far) = c.loop-name.invariant.told in
    let name = (get_or names i nothing).now in
    let others = drop (i + 1) (map (λ n. n.now) names) in
    record {
      told = told;
      between = contents c.loop-name.lines.w;
      all = c.loop-name.all;
      name = name;
      others = others;
      names_are = ap (λ (ns : List (List ℕ)). ns ++ (name ∷ others)) so_far.names_are
          ∙ names_rest (λ (n : Bor (List ℕ)). n.now) names i nothing c.loop-name-test.true;
      so_far = subst (λ (ns : List (List ℕ)). AreTold name_of (IsFileCut c.args.cuts.now opens) (lines_of c.args.kind) is_whole ns told
          (contents c.args.lines.now.w) (contents c.loop-name.lines.w) c.loop-name.all) (sym so_far.names_are) so_far;
      last = subst (λ (kind : Sum). EndsLines kind c.args.cuts.now opens name (contents c.loop-name.lines.w)
          (contents c.list_file.new.lines.w) (Err c.in-Err.fault)) c.loop-name.invariant.kind c.in-Err.ensures.listed;
    }

pub loop-name-preserved : goal.loop-name-preserved
loop-name-preserved g c =
    let i = c.loop-name.name-index in
    let names = c.args.names.now in
    let opens = g.F.Folder.opens c.args.folder.now in
    let contents = writer_contents g.W.Write.contents in
    let (told, so_far) = c.loop-name.invariant.told in
    let name = (get_or names i nothing).now in
    let ends : EndsLines c.args.kind c.args.cuts.now opens name (contents c.loop-name.lines.w) (contents c.list_file.new.lines.w) (Ok c.in-Ok.whole) =
    subst (λ (kind : Sum). EndsLines kind c.args.cuts.now opens name (contents c.loop-name.lines.w)
    (contents c.list_file.new.lines.w) (Ok c.in-Ok.whole)) c.loop-name.invariant.kind c.in-Ok.ensures.listed in
    let file : Cut = (name, (ends.0, c.in-Ok.whole)) in
    record {
      kind = c.in-Ok.ensures.kind ∙ c.loop-name.invariant.kind;
      told = (
        told ++ file ∷ [],
        told_next name_of (IsFileCut c.args.cuts.now opens) (lines_of c.args.kind) is_whole (take i (map (λ n. n.now) names)) _ told _ _ _
            c.loop-name.all _ file so_far ends.1 ends.2 (sym (names_more (λ (n : Bor (List ℕ)). n.now) names i nothing c.loop-name-test.true)) refl,
      );
      flushed = λ empty. c.in-Ok.ensures.flushed (c.loop-name.invariant.flushed empty);
    }
