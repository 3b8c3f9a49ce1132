use Rattle.cli.proofs.Common.{◌≡◌, drop, find, choices, has_letter}
use Rattle.cli.proofs.call.by_letter.Given as goal

-- it is for the options that are left to have the letter
abbrev pub invariant-loop-opt : goal.invariant-loop-opt
invariant-loop-opt l = find (has_letter l.letter) (choices l.options) ≡ find (has_letter l.letter) (choices (drop l.opt-index l.options))
