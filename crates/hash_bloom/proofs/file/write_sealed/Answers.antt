use Rattle.hash_bloom.proofs.Common.{common_steps, nat_tests}
use Rattle.hash_bloom.proofs.Lemmas.{subst, sym, Appends, AppendsPart, on_ok_weaker, on_err_weaker, on_err, append-nil, file_written, hash_begun, line_begun, word_begun, word_written, arith}
use Rattle.hash_bloom.proofs.file.write_sealed.Goals as goal

pub loop-word-init : goal.loop-word-init
loop-word-init g c = subst (Appends (g.W.Write.contents c.args.w.now) (g.W.Write.contents c.write_bytes.new.w))
    (sym (append-nil c.args.line.now)) c.in_ok-write_bytes.ensures.ok

pub loop-word-preserved : goal.loop-word-preserved
loop-word-preserved g c = grind (arith, nat_tests, common_steps, word_written)

pub returns-clause-ok : goal.returns-clause-ok
returns-clause-ok g c = grind (arith, nat_tests, common_steps, on_ok_weaker, file_written)

-- after a fault: in the line, in a word, in the hash
pub returns-in_err-write_bytes-clause-err : goal.returns-in_err-write_bytes-clause-err
returns-in_err-write_bytes-clause-err g c =
    on_err _ c.from_residual.result (line_begun _ _ c.args.line.now c.args.words.now c.in_err-write_bytes.ensures.err)

pub returns-in_err-write_bytes-2-clause-err : goal.returns-in_err-write_bytes-2-clause-err
returns-in_err-write_bytes-2-clause-err g c =
    on_err _ c.from_residual-in_err-write_bytes-2.result
    (word_begun _ _ _ c.args.line.now c.args.words.now c.loop-word.word-index c.loop-word-test.true c.loop-word.invariant
    (subst (AppendsPart (g.W.Write.contents c.loop-word.w) (g.W.Write.contents c.write_bytes-in-loop-word.new.w)) c.to_le_bytes.ensures
    c.in_err-write_bytes-2.ensures.err))

pub returns-clause-err : goal.returns-clause-err
returns-clause-err g c = on_err_weaker c.write_bytes-2.result (λ begun.
    hash_begun _ _ _ c.args.line.now c.args.words.now c.loop-word.word-index c.loop-word-test.false c.loop-word.invariant
    (subst (AppendsPart (g.W.Write.contents c.loop-word.w) (g.W.Write.contents c.write_bytes-2.new.w)) c.seal.ensures.value begun))
    c.write_bytes-2.ensures.err
