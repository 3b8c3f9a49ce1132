use Rattle.cli.proofs.Common.{◌≡◌, ◌++◌, drop, option_map, call_of, choices, said_by, sayings, texts, wants_of}
use Rattle.cli.proofs.call.call_of.Given as goal

-- what was said, and what the words that are left say
abbrev pub invariant-loop-at : goal.invariant-loop-at
invariant-loop-at l =
    sayings l.said.items ++ said_by (choices l.options) (option_map wants_of l.wants) (texts (drop l.at l.words))
    ≡ call_of (choices l.options) (texts l.words)
