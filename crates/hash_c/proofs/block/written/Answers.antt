use Rattle.hash_c.proofs.Common.{rules, ◌≡◌, ◌<◌, ◌+◌, ◌++◌, length, take, sym, ap, ◌∙◌, arith, refl, blocks_short, tail_short}
use Rattle.std.proofs.Common.{length-append, length-take-le}
use Rattle.hash_words.proofs.PutLemmas.{take-put_at}
use Rattle.hash_c.proofs.BlockLemmas.{stands_on}
use Rattle.hash_c.proofs.block.written.Goals as goal

pub returns-then-bytes-kept-clause-of_text : goal.returns-then-bytes-kept-clause-of_text
returns-then-bytes-kept-clause-of_text g c = λ start text stands.
    let n = g.row.N in
    let some = g.met.R.BlockRule.some in
    let buffer = c.args.state.now.buffer in
    let kept = c.args.state.now.kept in
    let bytes = c.args.bytes.now in
    let room : length buffer ≡ 32 = search rules in
    let size : length (take kept buffer) ≡ kept = length-take-le kept buffer (omega (arith, room, stands.usable.1, g.met.R.InWords.fits_buffer)) in
    let few : length (take kept buffer ++ bytes) < n = omega (arith, length-append (take kept buffer) bytes, size, c.if-bytes-kept.true, stands.usable.1) in
    record {
      usable = (stands.usable.0, omega (arith, c.if-bytes-kept.true, stands.usable.1));
      there =
          stands_on n some g.R.BlockRule.block start _ _ text bytes buffer c.put.new.buffer kept (kept + length bytes) c.args.state.now.length
          (sym (blocks_short n some g.R.BlockRule.block _ (take kept buffer ++ bytes) few))
          (ap (take (kept + length bytes)) c.put.ensures
          ∙ take-put_at kept bytes buffer (kept + length bytes) refl (omega (arith, room, stands.usable.1, g.met.R.InWords.fits_buffer))
          ∙ sym (tail_short n some (take kept buffer ++ bytes) few))
          stands.there;
    }

pub returns-clause-of_text : goal.returns-clause-of_text
returns-clause-of_text g c = λ start text stands. record {
  usable = (stands.usable.0, c.bytes_in_front.ensures.part);
  there =
      stands_on g.row.N g.met.R.BlockRule.some g.R.BlockRule.block start c.of_words-lanes.result _ text c.args.bytes.now
      c.args.state.now.buffer _ c.args.state.now.kept _ c.args.state.now.length
      (c.in_words-state.ensures ∙ c.bytes_in_front.ensures.mixed) c.bytes_in_front.ensures.left
      (rw c.of_words-lanes.ensures stands.there);
}
