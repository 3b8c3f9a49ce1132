use Rattle.std.proofs.Common.{rules, ◌≡◌, ◌++◌, [], append-nil, sym, ◌∙◌}
use Rattle.hash_bloom.specs.File.{file_of}
use Rattle.hash_uses.proofs.words.file_read_back.Goals as goal

-- both files are one
pub returns-in-Ok-clause-same : goal.returns-in-Ok-clause-same
returns-in-Ok-clause-same g c =
    let wrote : c.write_to.new.w.items ≡ file_of c.args.pair.now c.args.filter.now = search rules in
    let read : c.write_to.new.w.items ≡ file_of c.args.pair.now c.in-Ok.back ++ c.read_from.new.r.now = search rules in
    sym (c.a_file_tells_its_filter.ensures c.args.pair.now c.args.filter.now c.in-Ok.back [] c.read_from.new.r.now
    c.in_ok-write_to.ensures.stored c.in-Ok.ensures.stored (append-nil (file_of c.args.pair.now c.args.filter.now) ∙ sym wrote ∙ read))
