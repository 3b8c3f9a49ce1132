use Rattle.hash_jenkins.proofs.Common.{◌≡◌, ◌∙◌, ◌-◌, ◌<◌, List, ℕ, ap, take, drop, length, arith, put_at, spooky_blocks}
use Rattle.hash_jenkins.proofs.MixLemmas.{mixed_piece_from}
use Rattle.hash_jenkins.proofs.spooky_long.mix_piece.Goals.{in-Some, in_default}
use Rattle.hash_jenkins.proofs.spooky_long.mix_piece.Goals as goal

pub returns-clause-position : goal.returns-clause-position
returns-clause-position c =
    let b = c.put.new.buffer in
    let size : length b ≡ 192 = omega arith in
    let left : c.match-last_chunk.buffer ≡ put_at 0 (drop 96 b) b =
    elim c.match-last_chunk.branch [
      | in-Some w ↦ w.buffer-is ∙ w.put_array.ensures ∙ ap (λ (x : List ℕ). put_at 0 x b)
          (w.in-Some.ensures.cases.1.same ∙ ap (λ (n : ℕ). drop (n - 96) b) size)
      | in_default w ↦ let short : length b < 96 = w.in_default.ensures.cases in absurd (omega arith)
    ] in
    mixed_piece_from _ _ _ _ _ _ (omega arith) (omega arith) c.requires.enough (omega arith)
    (c.spooky_blocks.ensures.mixed ∙ ap (λ (x : List ℕ). spooky_blocks c.args.words.now (take 96 x)) c.put.ensures)
    (left ∙ ap (λ (x : List ℕ). put_at 0 (drop 96 x) x) c.put.ensures)
