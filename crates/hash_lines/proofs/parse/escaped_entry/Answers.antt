use Rattle.hash_lines.proofs.Lemmas.{true, ◌≡◌, ◌∷◌, ◌∙◌, sym, TellsBody, TellsEscaped, IfOk-weaker, found_as}
use Rattle.hash_lines.proofs.parse.escaped_entry.Goals as goal

pub returns-in-Some : goal.returns-in-Some
returns-in-Some c =
    let body = c.in-Some.body.now in
    let kinds = c.args.kinds.now in
    IfOk-weaker c.body_entry.result _ _
    (found_as (TellsBody kinds c.args.kind true) (TellsEscaped kinds c.args.kind) body c.args.line.now
    (λ kind name number tells. (body, c.in-Some.ensures, tells))
    (λ kind name number (other, is, tells).
    let same : other ≡ body = let both : 92 ∷ other ≡ 92 ∷ body = is ∙ sym c.in-Some.ensures in cc in
    rw same at tells)) c.body_entry.ensures
