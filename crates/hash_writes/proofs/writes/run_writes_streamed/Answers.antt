use Rattle.hash_writes.proofs.Common.{ℕ, ◌≡◌, ◌<◌, [], ◌++◌, sym, subst, List, Bor, take_all, All-append, IsText, written, joined_written, joined_more}
use Rattle.hash_writes.specs.declared.writes.HasherWrite.TheVariants.{Bytes}
use Rattle.hash_writes.proofs.writes.run_writes_streamed.Goals as goal

-- the write extends the text so far
pub loop-write-preserved : goal.loop-write-preserved
loop-write-preserved g c =
    let before = c.loop-write.invariant in
    let made = c.make.ensures in
    let laws = g.met.H.Streamed in
    let none : Bor (List ℕ) = record { ref_ptr = (0, 0); now = [] } in
    let more = λ (text : List ℕ). joined_more written text c.args.writes.now c.loop-write.write-index (Bytes none) c.loop-write-test.true in
    record {
      stands = λ from text stood. rw (more text) (laws.stands_after c.loop-write.h c.make.new.h from _ _ made.text made.state
          (before.stands from text stood));
      one = λ known. rw (made.state, before.one known, more []) (sym (laws.after_joined _ _ _ known before.text made.text));
      text = rw (more []) (All-append (λ byte. byte < 256) _ _ before.text made.text);
    }

-- at the end the writes so far are all
pub returns-clause-state : goal.returns-clause-state
returns-clause-state g c = λ known. rw (take_all _ _ c.loop-write-test.false) at (c.loop-write.invariant.one known)

pub returns-clause-stands : goal.returns-clause-stands
returns-clause-stands g c = λ from text stood. rw (take_all _ _ c.loop-write-test.false) at (c.loop-write.invariant.stands from text stood)

pub returns-clause-answers : goal.returns-clause-answers
returns-clause-answers g c = λ from text stood.
    g.met.H.Streamed.stands_answers c.loop-write.h from _ (returns-clause-stands g c from text stood)

pub returns-clause-text : goal.returns-clause-text
returns-clause-text g c = rw (take_all _ _ c.loop-write-test.false) at c.loop-write.invariant.text
