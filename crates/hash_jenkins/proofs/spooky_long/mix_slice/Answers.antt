use Rattle.hash_jenkins.proofs.Common.{◌∙◌, ap, take, length, ap₂, spooky_blocks, Long, tail, take-put_first}
use Rattle.hash_jenkins.proofs.MixLemmas.{whole_blocks}
use Rattle.hash_jenkins.proofs.spooky_long.mix_slice.Goals as goal

pub returns-clause-position : goal.returns-clause-position
unfolding tail
returns-clause-position c =
    let left = c.split_at.result.1.now in
    ap₂ Long
    (c.spooky_blocks.ensures.mixed ∙ ap (spooky_blocks c.args.words.now) c.split_at.ensures.front
    ∙ whole_blocks c.args.words.now c.args.bytes.now)
    (ap (take (length left)) c.put.ensures ∙ take-put_first left c.args.buffer.now ∙ c.split_at.ensures.back)
