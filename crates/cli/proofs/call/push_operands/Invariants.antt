use Rattle.cli.proofs.Common.{◌≡◌, ◌++◌, map, take, Operand, sayings, texts}
use Rattle.cli.proofs.call.push_operands.Given as goal

abbrev pub invariant-loop-word : goal.invariant-loop-word
invariant-loop-word l =
    sayings l.said.items ≡ sayings l.initial.said.items ++ map Operand (texts (take l.word-index l.words))
