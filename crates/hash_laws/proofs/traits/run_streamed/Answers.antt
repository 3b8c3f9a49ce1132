use Rattle.hash_laws.specs.Common.{ℕ, ◌<◌, [], sym, Bor, List, subst, arith, ⊎_elim, All-append}
use Rattle.std.proofs.Common.{take_all}
use Rattle.std.proofs.lemmas.Bool.{cases_lt}
use Rattle.hash_laws.specs.TextLaws.{joined_more}
use Rattle.hash_laws.proofs.traits.run_streamed.Goals as goal

-- the piece extends the text so far
pub loop-more-preserved : goal.loop-more-preserved
loop-more-preserved g c =
    let H = g.H.Piecewise in
    let before = c.loop-more.invariant in
    let fed = c.feed.ensures in
    let laws = g.met.H.Streamed in
    let none : Bor (List ℕ) = record { ref_ptr = (0, 0); now = [] } in
    let more = λ (text : List ℕ). joined_more (λ piece. piece.now) text c.args.pieces.now c.loop-more.more-index none
    c.loop-more-test.true in
    record {
      none = λ first. absurd (omega arith);
      in_range = λ _. ⊎_elim before.in_range
          (λ first. subst (λ h. H.in_range (H.state h)) (before.none (omega arith)) fed.in_range_before)
          (cases_lt 0 c.loop-more.more-index);
      stands = λ from text stood. rw (more text) (laws.stands_after c.loop-more.h c.feed.new.self from _ _ fed.text fed.state
          (before.stands from text stood));
      one = λ known. rw (fed.state, before.one known, more []) (sym (laws.after_joined _ _ _ known before.text fed.text));
      text = rw (more []) (All-append (λ byte. byte < 256) _ _ before.text fed.text);
    }

-- at the end the pieces so far are all
pub returns-clause-state : goal.returns-clause-state
returns-clause-state g c = λ known. rw (take_all _ _ c.loop-more-test.false) at (c.loop-more.invariant.one known)

pub returns-clause-stands : goal.returns-clause-stands
returns-clause-stands g c = λ from text stood. rw (take_all _ _ c.loop-more-test.false) at (c.loop-more.invariant.stands from text stood)

pub returns-clause-answers : goal.returns-clause-answers
returns-clause-answers g c = λ from text stood.
    g.met.H.Streamed.stands_answers c.loop-more.h from _ (returns-clause-stands g c from text stood)

pub returns-clause-text : goal.returns-clause-text
returns-clause-text g c = rw (take_all _ _ c.loop-more-test.false) at c.loop-more.invariant.text
