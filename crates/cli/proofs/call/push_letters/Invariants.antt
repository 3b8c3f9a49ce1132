use Rattle.cli.proofs.Common.{◌≡◌, ◌++◌, drop, by_letters, choices, sayings}
use Rattle.cli.proofs.call.push_letters.Given as goal

-- the letters that are left say what is still to be said, and what they want is wanted
abbrev pub invariant-loop-at : goal.invariant-loop-at
invariant-loop-at l =
    (sayings l.said.items ++ (by_letters (choices l.options) l.word (drop l.at l.letters)).says
    ≡ sayings l.initial.said.items ++ (by_letters (choices l.options) l.word l.letters).says)
    × ((by_letters (choices l.options) l.word (drop l.at l.letters)).wants ≡ (by_letters (choices l.options) l.word l.letters).wants)
