use Rattle.hash_blocks.proofs.Common.{◌∙◌, [], ℕ, List, Bor, take, sym, ap, arith, take-put_first}
use Rattle.hash_blocks.proofs.PartLemmas.{few-mixed, few-placed, none-mixed, none-left, placed-whole, whole-mixed, whole-left}
use Rattle.hash_blocks.proofs.parts.words_in.Goals as goal
use Rattle.hash_blocks.proofs.parts.words_in.Goals.{then-kept-gt0+else-bytes-open, else-kept-gt0}

pub returns-then-bytes-open-clause-mixed : goal.returns-then-bytes-open-clause-mixed
returns-then-bytes-open-clause-mixed g c =
    few-mixed g.row.N g.met.R.BlockRule.some g.R.BlockRule.block _ c.args.buffer.now c.args.bytes.now c.args.kept c.told-buffer c.requires.part
    c.if-bytes-open.true

pub returns-then-bytes-open-clause-left : goal.returns-then-bytes-open-clause-left
returns-then-bytes-open-clause-left g c =
    few-placed g.row.N g.met.R.BlockRule.some g.R.BlockRule.block c.args.state.now c.args.buffer.now c.args.bytes.now c.args.kept c.told-buffer
    c.requires.part c.put_behind.new.buffer c.if-bytes-open.true c.put_behind.ensures.placed

pub returns-clause-mixed : goal.returns-clause-mixed
returns-clause-mixed g c = elim c.if-kept-gt0.branch [
  | then-kept-gt0+else-bytes-open w ↦
      let front = w.split_at.ensures.front in
      let enough = w.if-bytes-open.false in
      whole-mixed g.row.N g.met.R.BlockRule.some g.R.BlockRule.block c.args.state.now c.args.buffer.now c.args.bytes.now c.args.kept
      c.told-buffer c.requires.part enough _ _ _ _ _ c.blocks_in.ensures.mixed (w.state-is ∙ w.block.ensures)
      (placed-whole g.row.N g.met.R.BlockRule.some g.R.BlockRule.block c.args.state.now c.args.buffer.now c.args.bytes.now c.args.kept
      c.told-buffer c.requires.part enough _ _ w.put_behind-then-kept-gt0.ensures.whole w.put_behind-then-kept-gt0.ensures.placed front)
      front (ap (λ (r : Bor (List ℕ)). r.now) w.rest-is ∙ w.split_at.ensures.back)
  | else-kept-gt0 w ↦
      none-mixed g.row.N g.met.R.BlockRule.some g.R.BlockRule.block c.args.state.now c.args.buffer.now c.args.bytes.now c.args.kept
      c.told-buffer c.requires.part _ _ _ (omega arith) c.blocks_in.ensures.mixed w.state-is (ap (λ (r : Bor (List ℕ)). r.now) w.rest-is)
]

pub returns-clause-left : goal.returns-clause-left
returns-clause-left g c = ap (λ n. take n c.keep.new.buffer) c.keep.ensures.count ∙ c.keep.ensures.kept ∙ sym (take-put_first c.blocks_in.result.now []) ∙ elim c.if-kept-gt0.branch [
  | then-kept-gt0+else-bytes-open w ↦
      whole-left g.row.N g.met.R.BlockRule.some g.R.BlockRule.block c.args.state.now c.args.buffer.now c.args.bytes.now c.args.kept
      c.told-buffer c.requires.part w.if-bytes-open.false _ _ [] c.blocks_in.ensures.left
      (ap (λ (r : Bor (List ℕ)). r.now) w.rest-is ∙ w.split_at.ensures.back)
  | else-kept-gt0 w ↦
      none-left g.row.N g.met.R.BlockRule.some g.R.BlockRule.block c.args.state.now c.args.buffer.now c.args.bytes.now c.args.kept
      c.told-buffer c.requires.part _ _ [] (omega arith) c.blocks_in.ensures.left (ap (λ (r : Bor (List ℕ)). r.now) w.rest-is)
]
