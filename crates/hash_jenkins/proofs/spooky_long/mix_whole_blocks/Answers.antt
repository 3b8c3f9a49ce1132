use Rattle.hash_jenkins.proofs.Common.{◌≡◌, ◌∙◌, ◌<◌, ◌++◌, List, ℕ, length, take, sym, ap, arith, ap₂, spooky_blocks, Long, mixed, nat_tests, take-put_first, spooky_blocks_short}
use Rattle.std.proofs.Common.{take-append-drop}
use Rattle.hash_jenkins.proofs.MixLemmas.{mixed_whole, room_in_block, calls_last, calls_followed}
use Rattle.hash_jenkins.proofs.spooky_long.mix_whole_blocks.Goals.{then-not-is_empty, else-not-is_empty}
use Rattle.hash_jenkins.proofs.spooky_long.mix_whole_blocks.Goals as goal

pub returns-clause-turns : goal.returns-clause-turns
returns-clause-turns c =
    let k = c.args.kept in
    let n = length c.args.bytes.now in
    elim c.if-not-is_empty.branch [
      | then-not-is_empty w ↦
          let more : 0 < length c.split_at-2.result.0.now = grind (arith, nat_tests) in
          omega (arith, w.turns-is, calls_followed k n c.requires.some c.requires.any (omega arith))
      | else-not-is_empty w ↦
          let none : length c.split_at-2.result.0.now ≡ 0 = grind (arith, nat_tests) in
          omega (arith, w.turns-is, calls_last k n c.requires.some (omega arith))
    ]

pub returns-clause-position : goal.returns-clause-position
returns-clause-position c =
    let b = c.args.buffer.now in
    let head = c.split_at.result.0.now in
    let rest = c.split_at.result.1.now in
    let left = c.split_at-2.result.1.now in
    let all : head ++ rest ≡ c.args.bytes.now = rw (c.split_at.ensures.front, c.split_at.ensures.back) (take-append-drop _ _) in
    let filled = c.spooky_blocks.ensures.mixed ∙ ap (λ (w : List ℕ). spooky_blocks c.args.words.now (take c.block_end-full.result w))
    c.put.ensures in
    let led = mixed_whole c.args.words.now b head rest c.args.kept c.block_end-full.result (omega arith) (omega arith) (omega arith) in
    let behind : c.if-not-is_empty.mixed ≡ spooky_blocks c.spooky_blocks.new.s c.split_at-2.result.0.now =
    elim c.if-not-is_empty.branch [
      | then-not-is_empty w ↦ w.mixed-is ∙ w.spooky_blocks-then-not-is_empty.ensures.mixed
      | else-not-is_empty w ↦ w.mixed-is
          ∙ sym (spooky_blocks_short _ _ (let none : length c.split_at-2.result.0.now ≡ 0 = grind (arith, nat_tests) in omega arith))
    ] in
    ap₂ Long (behind ∙ ap₂ spooky_blocks filled c.split_at-2.ensures.front)
    (ap (take (length left)) c.put-2.ensures ∙ take-put_first left c.put.new.buffer ∙ c.split_at-2.ensures.back)
    ∙ sym led ∙ ap (λ (x : List ℕ). mixed c.args.words.now (take c.args.kept b ++ x)) all

pub split_at-requires : goal.split_at-requires
split_at-requires c = rw c.block_end-full.ensures (room_in_block _ _ c.requires.within c.requires.some c.requires.enough)
