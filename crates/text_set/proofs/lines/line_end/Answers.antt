use Rattle.text_set.proofs.Common.{ℕ, ◌+◌, ◌≤◌, ◌==◌, length, arith, inl, inr, cases_lt, eqb-false, eqb-true, run_in_chunk_fails, run_in_chunk_stops}
use Rattle.text_set.proofs.lines.line_end.Goals as goal

pub returns-then-before-lt16 : goal.returns-then-before-lt16
returns-then-before-lt16 c =
    let bytes = c.args.bytes.now in
    let at : ℕ = c.loop-at.at in
    let n : ℕ = c.before_end-before.result in
    let room : at + 16 ≤ length bytes = omega arith in
    let is = eqb-true _ c.args.eol
    (run_in_chunk_stops (λ byte. byte == c.args.eol) bytes at 16 n 0 room c.before_end-before.ensures c.if-before-lt16.true) in (
      omega arith,
      is,
      λ k below. elim (cases_lt k at) [
        | inl early ↦ c.loop-at.invariant.1 k early
        | inr late ↦ eqb-false _ c.args.eol
            (run_in_chunk_fails (λ byte. byte == c.args.eol) bytes at 16 n 0 room c.before_end-before.ensures k late below)
      ],
    )

pub loop-at-preserved : goal.loop-at-preserved
loop-at-preserved c =
    let bytes = c.args.bytes.now in
    let at : ℕ = c.loop-at.at in
    let n : ℕ = c.before_end-before.result in
    let room : at + 16 ≤ length bytes = omega arith in (
      room,
      λ k below. elim (cases_lt k at) [
        | inl early ↦ c.loop-at.invariant.1 k early
        | inr late ↦ eqb-false _ c.args.eol
            (run_in_chunk_fails (λ byte. byte == c.args.eol) bytes at 16 n 0 room c.before_end-before.ensures k late (omega arith))
      ],
    )
