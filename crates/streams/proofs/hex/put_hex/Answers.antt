use Rattle.std.proofs.Common.{◌≡◌, ◌+◌, ◌-◌, ◌<◌, suc, arith, rules, length, drop, ◌++◌, ap, sym, ◌∙◌}
use Rattle.streams.specs.Hex.{hex}
use Rattle.streams.proofs.HexLemmas.{put_digit, put_none}
use Rattle.streams.proofs.hex.put_hex.Goals as goal

pub loop-at-init : goal.loop-at-init
loop-at-init c = record {
  put = put_none c.args.digits c.args.number c.args.places.now (omega arith) (search rules);
  after = omega arith;
  within = omega arith;
  whole = search rules;
}

pub loop-at-preserved : goal.loop-at-preserved
loop-at-preserved c =
    let l = c.loop-at in
    let left : l.at - (32 - c.args.digits) ≡ suc (l.at - 1 - (32 - c.args.digits)) = omega arith in
    let here : l.at ≡ l.at - 1 + 1 = omega arith in
    let inside : l.at - 1 < length l.places = omega (arith, l.invariant.whole) in
    record {
      put = rw c.digit.ensures (put_digit (l.at - 1 - (32 - c.args.digits)) l.rest (l.at - 1) l.places _ inside
          (ap (λ n. hex n l.rest ++ drop (l.at - 1 + 1) l.places) (sym left)
          ∙ ap (λ n. hex (l.at - (32 - c.args.digits)) l.rest ++ drop n l.places) (sym here) ∙ l.invariant.put));
      after = omega arith;
      within = omega (arith, l.invariant.within);
      whole = search rules;
    }
