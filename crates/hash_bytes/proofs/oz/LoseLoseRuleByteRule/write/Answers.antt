use Rattle.hash_bytes.proofs.Common.{◌≡◌, ◌+◌, ◌*◌, ◌<◌, ◌/◌, ◌∙◌, [], ◌++◌, ap, arith, length, get_or, take, take-append-drop, loselose_from, loselose-add, loselose-append, take_chunk}
use Rattle.hash_bytes.proofs.oz.LoseLoseRuleByteRule.write.Goals as goal

pub loop-eight-preserved : goal.loop-eight-preserved
loop-eight-preserved c =
    let bytes = c.args.bytes.now in
    let s = c.state.inside.state in
    let i = c.loop-eight.eight-index in
    let eight = get_or c.as_chunks.result.0.now i [] in
    let here : i < length bytes / 8 = omega arith in
    let more : take (i * 8) bytes ++ eight ≡ take ((i + 1) * 8) bytes
    = rw c.as_chunks.ensures.front (take_chunk 8 (length bytes / 8) i bytes [] here) in (
      rw (c.sum_of_eight-sum.ensures.value, c.loop-eight.invariant.0)
          (loselose-add _ eight ∙ loselose-append s (take (i * 8) bytes) eight ∙ ap (loselose_from s) more),
      omega arith,
    )

pub returns-clause-state : goal.returns-clause-state
returns-clause-state c =
    let bytes = c.args.bytes.now in
    let rest = c.as_chunks.result.1.now in
    let s = c.state.inside.state in
    let eights : c.loop-eight.eight-index ≡ length bytes / 8 = omega arith in
    c.loselose_bytes_in-state-inside-2.ensures
    ∙ rw (
      c.loop-eight.invariant.0,
      loselose-append s (take (c.loop-eight.eight-index * 8) bytes) rest,
      c.as_chunks.ensures.back,
      eights,
      take-append-drop (length bytes / 8 * 8) bytes,
    )
    (ap (λ v. loselose_from v.state bytes) c.state.view_is)

pub returns-clause-turns : goal.returns-clause-turns
returns-clause-turns c =
    let eights : c.loop-eight.eight-index ≡ length c.args.bytes.now / 8 = omega arith in
    c.loop-eight.invariant.1 ∙ rw eights (ap (λ v. v.turns + length c.args.bytes.now / 8) c.state.view_is)

pub returns-clause-value : goal.returns-clause-value
returns-clause-value c = λ i. record { state = returns-clause-state c i; turns = returns-clause-turns c i }

pub returns-then-bytes-lt8-clause-state : goal.returns-then-bytes-lt8-clause-state
returns-then-bytes-lt8-clause-state c = c.loselose_bytes_in-state-inside.ensures
    ∙ ap (λ before. loselose_from before.state c.args.bytes.now) c.state.view_is

pub returns-then-bytes-lt8-clause-turns : goal.returns-then-bytes-lt8-clause-turns
returns-then-bytes-lt8-clause-turns c =
    let none : c.args.state.now.turns ≡ c.args.state.now.turns + length c.args.bytes.now / 8 = omega (arith, c.if-bytes-lt8.true) in
    ap (λ v. v.turns) c.state.view_is ∙ none

pub returns-then-bytes-lt8-clause-value : goal.returns-then-bytes-lt8-clause-value
returns-then-bytes-lt8-clause-value c = λ i. record {
  state = returns-then-bytes-lt8-clause-state c i;
  turns = returns-then-bytes-lt8-clause-turns c i;
}
