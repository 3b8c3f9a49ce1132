use Rattle.hash_bytes.proofs.Common.{◌≡◌, ◌+◌, ◌*◌, take, loselose_from}
use Rattle.hash_bytes.proofs.oz.LoseLoseRuleByteRule.write.Given as goal

abbrev pub invariant-loop-eight : goal.invariant-loop-eight
invariant-loop-eight l =
    (l.sum ≡ loselose_from l.initial.sum (take (l.eight-index * 8) l.bytes))
    × (l.state-inside.turns ≡ l.initial.state-inside.turns + l.eight-index)
