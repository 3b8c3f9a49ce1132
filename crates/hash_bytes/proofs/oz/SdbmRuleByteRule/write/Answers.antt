use Rattle.hash_bytes.proofs.Common.{◌≡◌, ◌+◌, ◌*◌, ◌<◌, ◌/◌, ◌∙◌, [], ap, sym, arith, length, get_or, take, take-append-drop, take_all, lit<, ◌%◌, ◌^◌, mod-lt, take_more, sdbm_from, sdbm_sums, sdbm_of_one, sdbm_push, take_chunk}
use Rattle.hash_bytes.proofs.oz.SdbmRuleByteRule.write.Goals as goal

pub loop-four-init : goal.loop-four-init
loop-four-init c = (c.state.invariant, sym (sdbm_sums.of_nothing _ c.state.invariant), omega arith)

pub loop-four-preserved : goal.loop-four-preserved
loop-four-preserved c =
    let inv = c.loop-four.invariant in
    let four = get_or c.as_chunks.result.0.now c.loop-four.four-index [] in
    let here : c.loop-four.four-index < length c.args.bytes.now / 4 = omega arith in (
      c.sdbm4-state-inside.type_inv,
      c.sdbm4-state-inside.ensures.value ∙ ap (λ s. sdbm_from s four) inv.1 ∙ sdbm_sums.joined _ _ four
          ∙ ap (λ t. sdbm_from c.state.inside.state t) (rw c.as_chunks.ensures.front
          (take_chunk 4 (length c.args.bytes.now / 4) _ c.args.bytes.now [] here)),
      omega arith,
    )

pub loop-byte-init : goal.loop-byte-init
loop-byte-init c = (c.loop-four.invariant.0, sym (sdbm_sums.of_nothing _ c.loop-four.invariant.0), omega arith)

pub loop-byte-preserved : goal.loop-byte-preserved
loop-byte-preserved c =
    let inv = c.loop-byte.invariant in
    let s = c.loop-four.state-inside.state in
    let rest = c.as_chunks.result.1.now in
    let j = c.loop-byte.byte-index in
    let before = c.loop-byte.state-inside.state in
    let byte = get_or rest j 0 in
    let step : (65599 * before + byte) % 2 ^ 32 ≡ (before * 65599 % 2 ^ 32 + byte) % 2 ^ 32 = omega arith in
    let value : (before * 65599 % 2 ^ 32 + byte) % 2 ^ 32 ≡ sdbm_from s (take (j + 1) rest) =
    rw (inv.1, take_more rest j 0 c.loop-byte-test.true) (sdbm_push s (take j rest) byte) in (
      rw c.sdbm_step-state-inside-in-loop-byte.ensures (mod-lt _ (lit< tt)),
      c.sdbm_step-state-inside-in-loop-byte.ensures ∙ step
          ∙ value,
      inv.2,
    )

pub returns-clause-state : goal.returns-clause-state
returns-clause-state c =
    let bytes = c.args.bytes.now in
    let rest = c.as_chunks.result.1.now in
    let s = c.state.inside.state in
    let fours : c.loop-four.four-index ≡ length bytes / 4 = omega arith in
    c.loop-byte.invariant.1
    ∙ rw (
      take_all c.loop-byte.byte-index rest c.loop-byte-test.false,
      c.loop-four.invariant.1,
      sdbm_sums.joined s
          (take (c.loop-four.four-index * 4) bytes) rest,
      c.as_chunks.ensures.back,
      fours,
      take-append-drop (length bytes / 4 * 4) bytes,
    )
    (ap (λ v. sdbm_from v.state bytes) c.state.view_is)

pub returns-clause-turns : goal.returns-clause-turns
returns-clause-turns c =
    let fours : c.loop-four.four-index ≡ length c.args.bytes.now / 4 = omega arith in
    c.loop-byte.invariant.2 ∙ c.loop-four.invariant.2 ∙ rw fours (ap (λ v. v.turns + length c.args.bytes.now / 4) c.state.view_is)

pub returns-clause-value : goal.returns-clause-value
returns-clause-value c = λ i. record { state = returns-clause-state c i; turns = returns-clause-turns c i }

pub returns-in-len1-clause-state : goal.returns-in-len1-clause-state
returns-in-len1-clause-state c =
    c.sdbm_step-state-inside.ensures ∙ sym (sdbm_of_one c.state.inside.state c.args.bytes.now c.in-len1.len_at_least c.in-len1.len_below)
    ∙ ap (λ v. sdbm_from v.state c.args.bytes.now) c.state.view_is

pub returns-in-len1-clause-turns : goal.returns-in-len1-clause-turns
returns-in-len1-clause-turns c =
    let none : c.args.state.now.turns ≡ c.args.state.now.turns + length c.args.bytes.now / 4 = omega (arith, c.in-len1.len_below) in
    ap (λ v. v.turns) c.state.view_is ∙ none

pub returns-in-len1-clause-value : goal.returns-in-len1-clause-value
returns-in-len1-clause-value c = λ i. record { state = returns-in-len1-clause-state c i; turns = returns-in-len1-clause-turns c i }
