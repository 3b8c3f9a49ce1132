use Rattle.cuts_core.proofs.Common.{◌≡◌, ◌++◌, take, drop}
use Rattle.cuts_core.specs.Sizes.{behind, leading}
use Rattle.cuts_core.proofs.sizes.split_digits.Given as goal

-- all bytes so far are digits
abbrev pub invariant-loop-at : goal.invariant-loop-at
invariant-loop-at l = record {
  digits : leading l.word ≡ take l.at l.word ++ leading (drop l.at l.word);
  rest : behind l.word ≡ behind (drop l.at l.word);
}
