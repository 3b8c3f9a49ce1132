use Rattle.hash_laws.specs.Common.{◌≡◌, fold, subst, drop_all, texts}
use Rattle.hash_laws.proofs.PairLemmas.{alike_after}
use Rattle.hash_laws.specs.TextLaws.{rest_more}
use Rattle.hash_laws.proofs.traits.run_pair.Goals as goal

-- a piece fed to both keeps their answers alike or different
pub loop-piece-preserved : goal.loop-piece-preserved
loop-piece-preserved g c =
    let H = g.H.Piecewise in
    let laws = g.met.H.Undo in
    let fed = c.feed.ensures in
    let also = c.feed-in-loop-piece.ensures in
    let before = c.loop-piece.invariant in
    let kept = alike_after H.in_range H.after H.answer laws.after_injective laws.answer_injective _ _ _ _ _ fed.in_range_before
    also.in_range_before fed.in_range_after also.in_range_after fed.text fed.state also.state in
    record {
      first = rest_more (λ piece. piece.now) H.after _ _ _ _ _ _ c.loop-piece-test.true fed.state before.first;
      second = rest_more (λ piece. piece.now) H.after _ _ _ _ _ _ c.loop-piece-test.true also.state before.second;
      alike = (λ same. before.alike.0 (kept.0 same), λ same. kept.1 (before.alike.1 same));
    }

-- at the end no pieces are left
pub returns-clause-first : goal.returns-clause-first
returns-clause-first g c =
    let H = g.H.Piecewise in
    subst (λ left. fold H.after (H.state c.loop-piece.a) (texts left) ≡ fold H.after (H.state c.args.a.now) (texts c.args.pieces.now))
    (drop_all _ _ c.loop-piece-test.false) c.loop-piece.invariant.first

pub returns-clause-second : goal.returns-clause-second
returns-clause-second g c =
    let H = g.H.Piecewise in
    subst (λ left. fold H.after (H.state c.loop-piece.b) (texts left) ≡ fold H.after (H.state c.args.b.now) (texts c.args.pieces.now))
    (drop_all _ _ c.loop-piece-test.false) c.loop-piece.invariant.second

pub returns-clause-alike : goal.returns-clause-alike
returns-clause-alike g c = c.loop-piece.invariant.alike
