use Rattle.hash_lines.proofs.Common.{◌≡◌, ◌++◌, take, escape}
use Rattle.hash_lines.proofs.escape.push_escaped.Given as goal

abbrev pub invariant-loop-byte : goal.invariant-loop-byte
invariant-loop-byte l = l.text.items ≡ l.initial.text.items ++ escape (take l.byte-index l.name)
