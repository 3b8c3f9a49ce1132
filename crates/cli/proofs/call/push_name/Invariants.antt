use Rattle.cli.proofs.Common.{◌≡◌, drop, by_name, choices}
use Rattle.cli.proofs.call.push_name.Given as goal

-- it is for the options that are left to have the name
abbrev pub invariant-loop-opt : goal.invariant-loop-opt
invariant-loop-opt l =
    (by_name (choices l.options) l.word l.long ≡ by_name (choices (drop l.opt-index l.options)) l.word l.long)
    × (l.said ≡ l.initial.said)
