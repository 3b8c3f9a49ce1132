use Rattle.cli.proofs.Common.{◌≡◌, drop, all_ascii_digits}
use Rattle.cli.proofs.numbers.are_digits.Given as goal

-- the digits are left
abbrev pub invariant-loop-byte : goal.invariant-loop-byte
invariant-loop-byte l = all_ascii_digits (drop l.byte-index l.text) ≡ all_ascii_digits l.text
