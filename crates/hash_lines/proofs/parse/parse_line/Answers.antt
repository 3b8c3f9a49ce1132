use Rattle.hash_lines.proofs.Lemmas.{false, inl, inr, Tells, TellsBody, IfOk-weaker, found_as}
use Rattle.hash_lines.proofs.parse.parse_line.Goals as goal

pub returns-in-None : goal.returns-in-None
returns-in-None c =
    let untold = rw c.in-None.is at c.in_ok-entry.ensures in
    let kinds = c.args.kinds.now in
    let line = c.args.line.now in
    IfOk-weaker c.body_entry.result _ _
    (found_as (TellsBody kinds c.args.kind false) (Tells kinds c.args.kind) line line (λ kind name number tells. inl tells)
    (λ kind name number tells. elim tells [ inl plain ↦ plain | inr escaped ↦ absurd (untold kind name number escaped) ]))
    c.body_entry.ensures
