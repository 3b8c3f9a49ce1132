use Rattle.hash_c.proofs.Common.{◌∙◌, ◌++◌, ◌∷◌, [], set, ap, ap₂, sym, append_assoc, arith, length_push, line_texts}
use Rattle.hash_c.proofs.LineLemmas.{hashed_one_more, hashed_no_more}
use Rattle.hash_c.proofs.column.hash_lines.Goals.{then-count-hashes, else-count-hashes}
use Rattle.hash_c.proofs.column.hash_lines.Goals as goal

pub loop-rest-preserved : goal.loop-rest-preserved
loop-rest-preserved g c =
    let before = c.loop-rest.invariant in
    let line = c.first_line.result.0.now in
    record {
      so_far = before.so_far ++ line ∷ [];
      split = before.split ∙ ap (λ l. before.so_far ++ l) c.first_line.ensures.first
          ∙ sym (append_assoc before.so_far (line ∷ []) (line_texts 10 c.first_line.result.1.now));
      count = omega (arith, before.count, length_push before.so_far line);
      few = omega (arith, before.few, c.first_line.ensures.shorter);
      written = elim c.if-count-hashes.branch [
        | then-count-hashes w ↦
            w.hashes-is ∙ ap₂ (λ l h. set l c.loop-rest.count h) before.written w.hash_of.ensures.value
            ∙ hashed_one_more g.H.Piecewise.hash_of before.so_far line c.args.hashes.now c.loop-rest.count before.count
            (omega (arith, w.if-count-hashes.true, c.loop-rest.auto.hashes))
        | else-count-hashes w ↦
            w.hashes-is ∙ before.written
            ∙ hashed_no_more g.H.Piecewise.hash_of before.so_far line c.args.hashes.now c.loop-rest.count before.count
            (omega (arith, w.if-count-hashes.false, c.loop-rest.auto.hashes))
      ];
    }
