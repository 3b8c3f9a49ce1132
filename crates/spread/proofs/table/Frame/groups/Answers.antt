use Rattle.std.proofs.Common.{◌∷◌, [], ◌∙◌, codes, string_bytes}
use Rattle.spread.specs.Lines.{AreCells, counted, groups, in_buckets}
use Rattle.spread.proofs.CellLemmas.{ended_line, first_cell, one_more}
use Rattle.spread.proofs.table.Frame.groups.Goals.{in-Some+in_ok-in_buckets-2+in_ok-push-2, in_default}
use Rattle.spread.proofs.table.Frame.groups.Goals as goal

pub returns : goal.returns
returns c =
    let frame = c.args.self.now in
    let keys = counted frame.keys (codes "key") in
    let begun = first_cell (string_bytes c.in_ok-line.line.text) keys (c.in_ok-line.ensures ∙ c.as_str.ensures.value ∙ c.in_ok-counted.ensures) in
    let both =
    one_more (keys ∷ []) _ _ (in_buckets frame.sizes.first) _ begun c.in_ok-push.ensures
    (c.as_str-2.ensures.value ∙ c.in_ok-in_buckets.ensures) in
    let all : AreCells (groups frame) (string_bytes c.match-self.line.text) = elim c.match-self.branch [
      | in-Some+in_ok-in_buckets-2+in_ok-push-2 w ↦
          rw (w.line-is, w.in-Some.is) (
          one_more (keys ∷ in_buckets frame.sizes.first ∷ []) _ _ (in_buckets w.in-Some.buckets) _ both w.in_ok-push-2.ensures
          (w.as_str-in-Some.ensures.value ∙ w.in_ok-in_buckets-2.ensures)
          )
      | in_default w ↦ rw (w.line-is, w.in_default.is) both
    ] in
    ended_line (groups frame) _ all c.ended.result c.ended.ensures
