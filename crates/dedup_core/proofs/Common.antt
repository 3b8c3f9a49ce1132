-- What the proofs of this crate share of std, of the crates below and of its own definitions, passed on from one place.
pub use Rattle.std.proofs.Common.{ℕ, ◌≡◌, ◌+◌, List, [], ◌∷◌, ◌++◌, ◌≤◌, length, drop, ap, subst, arith, length-drop, ◌-◌, ◌∙◌, append_assoc, ◌≢◌, ◌<◌, ◌&&◌, inr, Bool, true, false, Result, Ok, Err, map, set, get_or, take, Option, None, Some, sym, refl, take-append-drop, length-append, drop-cons, is_some, IsErr, inl, OnOk, not, if◌then◌else◌, fold, is_ok, cond, slice_index_or, count_by, bytes_eq, rules, OnErr, ◌^◌, length-take, IfOk, append-nil, flat_map, min, length-take-le}
pub use Rattle.std.proofs.KnownBytes.{Appends-kept, Appends-nil, Consumes-trans, Consumes-whole, Appends-trans, Keeps-refl, Consumes-nil}
pub use Rattle.std.proofs.lemmas.Bool.{and_parts, false≢true, cases_lt, true≢false, eqb-false}
pub use Rattle.std.proofs.lemmas.Grind.{flat_map-append, common_steps, elements, same_number_lists}
pub use Rattle.std.proofs.lemmas.List.{drop-drop, drop-set-lt, map-append, take_more, take_more_set, drop_more, length-map, get_or-map, get_or_default, drop-take, get_or-drop, get_or_append_left, take-append-le, take_all, drop_all}
pub use Rattle.std.proofs.lemmas.List.Sums.{fold-append, sum_by_push, count_by-le-length}
pub use Rattle.std.specs.Fmt.{decimal, styled_decimal, format_spec}
pub use Rattle.std.specs.Io.BufRead.{ends_with_byte, strip_last}
pub use Rattle.std.specs.Io.Buffered.{writer_buffer, writer_contents}
pub use Rattle.std.specs.Io.KnownBytes.{Appends, Keeps, Consumes, IsAtEnd}
pub use Rattle.std.specs.List.{repeat, list_all}
pub use Rattle.streams.proofs.StreamLemmas.{part_behind, part_whole, on_err, part_longer}
pub use Rattle.streams.specs.Streams.{AppendsPart}
pub use Rattle.text_set.proofs.LineLemmas.{bare_end, bare_line, first_ends, first_line, some_line, first_strip, line_with_end, line_without_end, strip_bare}
pub use Rattle.text_set.proofs.SetLemmas.{has_all, has_there, once_with, once_begins}
pub use Rattle.text_set.specs.Lines.{lines_by, IsBare, IsLineEnd, as_line_by}
pub use Rattle.text_set.specs.Texts.{has, with_text, EachOnce, StandsAt}
pub use Rattle.dedup_core.specs.Between.{AreNext, IsFound, Filled, Splits, Takes}
pub use Rattle.dedup_core.specs.Tallies.{column, Tallies, shown, told, times_of}
pub use Rattle.dedup_core.specs.Taking.{At, BeginWith, BreaksInput, Broke, Leads, Grows}
pub use Rattle.dedup_core.specs.Inputs.{AreRead, ReadsInput, whole_lines}
pub use Rattle.dedup_core.specs.Running.{AllBeginWith, BreaksBehind, EndsBehind, EndsTaking, NextBeginsWith, Run, run_of}
pub use Rattle.std.proofs.lemmas.Bool.Decides.{nat_tests}
