use Rattle.hash_jenkins.proofs.Common.{◌≡◌, ◌∙◌, ◌+◌, ◌++◌, ℕ, List, length, ap, take, sym, arith, Long, mixed}
use Rattle.hash_jenkins.proofs.MixLemmas.{mixed_part, calls_none, calls_unkept, calls_last}
use Rattle.hash_jenkins.proofs.spooky_long.mix_blocks.Goals as goal

pub returns-then-kept-eq0-clause-position : goal.returns-then-kept-eq0-clause-position
returns-then-kept-eq0-clause-position c =
    let none : 0 ≡ c.args.kept = omega arith in
    c.mix_slice.ensures.position ∙ ap (λ (k : ℕ). mixed c.args.words.now (take k c.args.buffer.now ++ c.args.bytes.now)) none

pub returns-then-kept-eq0-clause-turns : goal.returns-then-kept-eq0-clause-turns
returns-then-kept-eq0-clause-turns c =
    c.mix_slice.ensures.turns ∙ ap (λ (n : ℕ). c.args.turns.now + n) (sym (calls_unkept c.args.kept _ (omega arith) (omega arith)))

pub returns-then-end-lt-BLOCK-clause-position : goal.returns-then-end-lt-BLOCK-clause-position
returns-then-end-lt-BLOCK-clause-position c =
    let n = c.args.kept + length c.args.bytes.now in
    ap (λ (b : List ℕ). Long c.args.words.now (take n b)) c.put.ensures ∙ sym (mixed_part _ _ _ _ (omega arith) c.if-end-lt-BLOCK.true)

pub returns-then-end-lt-BLOCK-clause-turns : goal.returns-then-end-lt-BLOCK-clause-turns
returns-then-end-lt-BLOCK-clause-turns c = omega (arith, calls_none c.args.kept (length c.args.bytes.now) c.if-end-lt-BLOCK.true)

pub returns-then-bytes-ge32-clause-turns : goal.returns-then-bytes-ge32-clause-turns
returns-then-bytes-ge32-clause-turns c =
    c.mix_piece.ensures.turns ∙ ap (λ (n : ℕ). c.args.turns.now + n) (sym (calls_last c.args.kept _ (omega arith) (omega arith)))
