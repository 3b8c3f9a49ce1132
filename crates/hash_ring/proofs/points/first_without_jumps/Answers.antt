use Rattle.hash_ring.proofs.Lemmas.{◌+◌, ◌-◌, ◌/◌, ◌≤◌, length, arith, subst, sym, refl, IsWindow, narrowed, within_half}
use Rattle.hash_ring.proofs.points.first_without_jumps.Goals as goal

pub loop-size-preserved : goal.loop-size-preserved
loop-size-preserved c =
    let old = c.loop-size in
    record {
      inside = subst (λ step. old.first + step + (old.size - old.size / 2) ≤ length c.args.points.now) (sym c.if_so-first.ensures)
          (within_half old.first old.size (length c.args.points.now) _ old.invariant.inside);
      window = λ ordered.
          subst (λ step. IsWindow c.args.points.now c.args.place (old.first + step) (old.size - old.size / 2)) (sym c.if_so-first.ensures)
          (narrowed c.args.points.now c.args.place old.first old.size (old.size / 2) _ _ ordered (old.invariant.window ordered)
          (omega (arith, c.loop-size-test.true)) (omega (arith, c.loop-size-test.true)) refl);
    }
