use Rattle.cli.proofs.Common.{◌∙◌, ap, sym, subst, refl, ◌<◌, ◌++◌, [], drop, take-append-drop, arith, append-nil}
use Rattle.cli.proofs.reason.without_number.Goals as goal

pub returns-in-Some : goal.returns-in-Some
returns-in-Some c =
    let words = c.args.words.now in
    let (i, j, (lacks, has), front, back, order, long, whole) = c.in-Some.ensures.cases in (
      drop i words,
      sym (take-append-drop i words) ∙ ap (λ l. l ++ drop i words) (sym front),
      λ some. (drop j words, has.split),
      λ at more below. lacks at (subst (λ n. at < n) long below) more,
    )

pub returns-in-None : goal.returns-in-None
returns-in-None c = (
  [],
  sym (append-nil c.args.words.now),
  λ some. absurd (some refl),
  λ at more below. c.in-None.ensures.cases at (omega (arith, below)) more,
)
