use Rattle.cli.proofs.Common.{◌≡◌, ◌++◌, ◌==◌, drop, length, string_bytes, in_column, shown, slice_split}
use Rattle.cli.proofs.help.push_option.Given as goal

-- with the lines that are left the text is whole
abbrev pub invariant-loop-line : goal.invariant-loop-line
invariant-loop-line l =
    string_bytes l.text ++ in_column l.column l.at (drop (length l.yielded) (slice_split (λ byte. byte == 10) l.opt.words.now))
    ≡ string_bytes l.fn.text ++ shown l.column l.opt
