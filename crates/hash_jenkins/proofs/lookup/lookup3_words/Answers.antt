use Rattle.hash_jenkins.proofs.Common.{◌∙◌, [], ap, arith, ap₂, apply, add_words, block_words}
use Rattle.hash_rounds.specs.Rounds as rounds
use Rattle.hash_jenkins.proofs.Lookup3Lemmas.{blocks_in, few_in, block_in, lookup3_words_from}
use Rattle.hash_jenkins.proofs.lookup.lookup3_words.Goals as goal
use Rattle.hash_jenkins.proofs.lookup.lookup3_words.Goals.{then-piece-lt12, else-piece-lt12+in_default}

pub returns : goal.returns
returns c =
    let piece = c.args.piece.now in
    let mixed = lookup3_words_from _ _ piece _ _ _ c.start-s.ensures in
    elim c.if-piece-lt12.branch [
      | then-piece-lt12 w ↦
          mixed (w.s-is ∙ w.add_rest.ensures ∙ few_in _ piece w.if-piece-lt12.true) c.lookup3_final.ensures.round
      | else-piece-lt12+in_default w ↦
          let rest = w.loop-block.rest.now in
          mixed (w.s-is ∙ w.add_rest-else-piece-lt12.ensures ∙ few_in _ rest w.in_default.ensures.cases ∙ w.loop-block.invariant)
          c.lookup3_final.ensures.round
    ]

pub loop-block-preserved : goal.loop-block-preserved
loop-block-preserved c =
    let split = c.in-Some.ensures.cases in
    let words = c.block_words.ensures ∙ ap block_words split.0 in
    let led = c.lookup3_mix.ensures.round ∙ ap (apply 32 rounds.lookup3_mix_steps []) (c.add_words.ensures ∙ ap (add_words _) words) in
    ap₂ blocks_in led split.1 ∙ block_in _ c.loop-block.rest.now (omega (arith, split.2)) ∙ c.loop-block.invariant
