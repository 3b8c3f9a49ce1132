use Rattle.cli.proofs.Common.{◌∷◌, [], ◌++◌, ℕ, List, Option, get_or, map, ap, sym, ◌∙◌}
use Rattle.std.proofs.lemmas.List.{map-append}
use denote.Ref.{Bor}
use Rattle.cli.specs.Inputs.{left_in}
use Rattle.cli.proofs.ToldLemmas.{names_more}
use Rattle.cli.proofs.inputs.inputs.Goals as goal

pub loop-name-preserved : goal.loop-name-preserved
loop-name-preserved g c =
    let d : Bor (List ℕ) = record { ref_ptr = (0, 0); now = [] } in
    let names = c.args.names.now in
    let i = c.loop-name.name-index in
    let left = left_in g.F.Folder.holds g.R.Read.remaining in
    let held : Bor (List ℕ) → Option (List ℕ) = λ name. g.F.Folder.holds c.args.folder.now name.now in
    ap (map left) c.in-Ok.ensures.items ∙ map-append left c.loop-name.inputs.items _
    ∙ ap (λ (ls : List (Option (List ℕ))). ls ++ held (get_or names i d) ∷ []) c.loop-name.invariant
    ∙ sym (names_more held names i d c.loop-name-test.true)
