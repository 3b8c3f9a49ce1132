use Rattle.hash_theorems.proofs.JenkinsCommon.{OnTrue_from, IsText-from_slice, HaveOtherWords}
use Rattle.hash_theorems.proofs.ShortStretches.{short_words-differ}
use Rattle.hash_theorems.proofs.jenkins.two_texts.apart_by_stretch.Goals as goal

pub returns-then-x-lt-LONG-clause-differ : goal.returns-then-x-lt-LONG-clause-differ
returns-then-x-lt-LONG-clause-differ c = OnTrue_from c.differ_in_one_stretch.result (HaveOtherWords c.args.x.now c.args.y.now)
    (λ yes seed1 seed2 s1 s2. short_words-differ seed1 seed2 c.args.x.now c.args.y.now
    s1 s2 (IsText-from_slice c.args.x.now c.type_inv.x) (IsText-from_slice c.args.y.now c.type_inv.y) c.if-x-lt-LONG.true
    (c.differ_in_one_stretch.ensures.0 yes))
