use Rattle.cli.proofs.Common.{◌≡◌, ◌++◌, replicate, string_bytes}
use Rattle.cli.proofs.help.push_spaces.Given as goal

-- as many spaces stand behind the text as turns have been made
abbrev pub invariant-loop : goal.invariant-loop
invariant-loop l = string_bytes l.text ≡ string_bytes l.fn.text ++ replicate l.counter 32
