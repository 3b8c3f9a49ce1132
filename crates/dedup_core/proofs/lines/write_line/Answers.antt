use Rattle.dedup_core.proofs.Common.{ℕ, List, ◌≡◌, ◌≤◌, ◌∷◌, ◌++◌, [], length, ap, sym, subst, arith, strip_last, Appends-trans, as_line_by, line_with_end, line_without_end, on_err, part_behind, part_longer, rules, common_steps, nat_tests}
use Rattle.std.proofs.lemmas.Result.{on_err_weaker, on_ok_weaker}
use Rattle.dedup_core.proofs.lines.write_line.Goals as goal

pub returns-then-text-line-clause-err : goal.returns-then-text-line-clause-err
returns-then-text-line-clause-err g c = search (rules, line_with_end)

-- what is written of a line with no end
with_end : (eol : ℕ) (line text : List ℕ) → text ≡ strip_last eol line → length line ≤ length text → as_line_by eol line ≡ line ++ eol ∷ []
with_end eol line text is all = ap (λ l. l ++ eol ∷ []) (line_without_end eol line (subst (λ l. length line ≤ length l) is all))

pub returns-in_err-write_all-clause-err : goal.returns-in_err-write_all-clause-err
returns-in_err-write_all-clause-err g c =
    let whole = with_end c.args.eol c.args.line.now c.args.text.now c.requires (omega (arith, c.if-text-line.false)) in
    on_err _ c.from_residual.result (part_longer _ _ _ _ _ (sym whole) c.in_err-write_all.ensures.err)

pub returns-clause-ok : goal.returns-clause-ok
returns-clause-ok g c = grind (arith, nat_tests, common_steps, with_end, on_ok_weaker, Appends-trans)

pub returns-clause-err : goal.returns-clause-err
returns-clause-err g c =
    let whole = with_end c.args.eol c.args.line.now c.args.text.now c.requires (omega (arith, c.if-text-line.false)) in
    rw whole (on_err_weaker c.write_all-3.result (part_behind _ _ _ _ _ c.in_ok-write_all.ensures.ok) c.write_all-3.ensures.err)
