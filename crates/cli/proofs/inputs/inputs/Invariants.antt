use Rattle.cli.proofs.Common.{◌≡◌, map, take}
use Rattle.cli.specs.Inputs.{left_in}
use Rattle.cli.proofs.inputs.inputs.Given as goal

-- the inputs so far are those of the first names
abbrev pub invariant-loop-name : goal.invariant-loop-name
invariant-loop-name g l = map (left_in g.F.Folder.holds g.R.Read.remaining) l.inputs.items
    ≡ take l.name-index (map (λ name. g.F.Folder.holds l.folder name.now) l.names)
