use Rattle.cli.proofs.Common.{◌≡◌, ◌+◌, drop, fold, length, max, column, label}
use Rattle.cli.proofs.help.column.Given as goal

-- the options that are left make the column what all make it
abbrev pub invariant-loop-opt : goal.invariant-loop-opt
invariant-loop-opt l =
    fold (λ most opt. max most (length (label opt) + 2)) l.column (drop l.opt-index l.options) ≡ column l.options
