use Rattle.hash_lines.proofs.Common.{◌≡◌, ◌++◌, map, take, to_ascii_lowercase}
use Rattle.hash_lines.proofs.forms.push_lowercase.Given as goal

-- the bytes so far are there
abbrev pub invariant-loop-byte : goal.invariant-loop-byte
invariant-loop-byte l = l.line.items ≡ l.initial.line.items ++ map to_ascii_lowercase (take l.byte-index l.bytes)
