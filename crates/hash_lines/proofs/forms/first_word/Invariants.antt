use Rattle.hash_lines.proofs.Common.{◌≡◌, false, All, take, is_ascii_whitespace}
use Rattle.hash_lines.proofs.forms.first_word.Given as goal

-- the bytes so far are no blanks
abbrev pub invariant-loop-at : goal.invariant-loop-at
invariant-loop-at l = All (λ byte. is_ascii_whitespace byte ≡ false) (take l.at l.line)
