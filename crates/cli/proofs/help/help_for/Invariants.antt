use Rattle.cli.proofs.Common.{◌≡◌, ◌++◌, drop, string_bytes, flat_map, shown}
use Rattle.cli.proofs.help.help_for.Given as goal

-- with the options that are left all are shown
abbrev pub invariant-loop-opt : goal.invariant-loop-opt
invariant-loop-opt l =
    string_bytes l.text ++ flat_map (shown l.column) (drop l.opt-index l.options)
    ≡ l.front ++ flat_map (shown l.column) l.options
