use Rattle.hash_bloom.proofs.Lemmas.{ap, ◌%◌, ◌∙◌, ◌≡◌, arith, place, next_hash, next_step, set_more, before_more}
use Rattle.hash_bloom.proofs.bits.set_all.Goals as goal

pub loop-i-preserved : goal.loop-i-preserved
loop-i-preserved c =
    let so_far = c.loop-i.invariant in
    let at = c.remainder-at.ensures ∙ ap (λ h. h % c.args.bits) so_far.hash in
    let places = place c.args.bits c.args.first c.args.second in
    record {
      hash = c.next_probe.ensures.hash ∙ next_hash c.args.second c.loop-i.i _ so_far.step c.args.first _ so_far.hash;
      step = c.next_probe.ensures.step ∙ next_step c.args.second c.loop-i.i _ so_far.step;
      set = set_more places c.loop-i.i c.remainder-at.result at c.args.words.now c.loop-i.words so_far.set c.set_bit.new.words
          c.set_bit.ensures;
      before = before_more places c.loop-i.i c.remainder-at.result at c.args.words.now c.loop-i.words so_far.set c.loop-i.before
          c.has_bit-before.result so_far.before c.has_bit-before.ensures;
    }

pub returns-clause-set : goal.returns-clause-set
returns-clause-set c =
    let done : c.loop-i.i ≡ c.args.probes = omega (arith, c.loop-i.auto.i-end, c.loop-i-test.false) in
    rw (← done) c.loop-i.invariant.set
