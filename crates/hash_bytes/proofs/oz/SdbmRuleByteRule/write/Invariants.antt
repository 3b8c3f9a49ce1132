use Rattle.hash_bytes.proofs.Common.{◌≡◌, ◌+◌, ◌*◌, ◌<◌, ◌^◌, take, sdbm_from}
use Rattle.hash_bytes.proofs.oz.SdbmRuleByteRule.write.Given as goal

abbrev pub invariant-loop-four : goal.invariant-loop-four
invariant-loop-four l =
    (l.state-inside.state < 2 ^ 32)
    × (l.state-inside.state ≡ sdbm_from l.initial.state-inside.state (take (l.four-index * 4) l.bytes))
    × (l.state-inside.turns ≡ l.initial.state-inside.turns + l.four-index)

abbrev pub invariant-loop-byte : goal.invariant-loop-byte
invariant-loop-byte l =
    (l.state-inside.state < 2 ^ 32)
    × (l.state-inside.state ≡ sdbm_from l.initial.state-inside.state (take l.byte-index l.rest))
    × (l.state-inside.turns ≡ l.initial.state-inside.turns)
