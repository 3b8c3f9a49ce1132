-- What the proofs of this crate share of std, of the crates below and of its own definitions, passed on from one place.
pub use Rattle.spread_core.specs.Call.{is_called, kind_called}
pub use Rattle.spread_core.specs.Keys.{ReadsFixed, ReadsLine, ReadsLines, ReadsOne, TakesFixed, TakesKeys, TakesLines}
pub use Rattle.hashers.specs.Counts.{bucket_counts, collisions, in_bucket, times}
unfoldable pub use Rattle.hashers.specs.Counts.{meetings}
pub use Rattle.hashers.specs.Text.{IsText}
pub use Rattle.std.proofs.Common.{All, Bool, Contains, IfSome, List, None, Option, Some, [], ap, append-nil, arith, bytes_eq, cond, count_by, drop, eqb, false, filter_map, find, fold, get_or, get_or-set_other, get_or-take, is_none, length, map, mul-le-mul_left, ne_eqb, refl, rules, set, subst, suc, sum, sum_by, sym, take, true, ℕ, ◌%◌, ◌*◌, ◌++◌, ◌+◌, ◌-◌, ◌<◌, ◌^◌, ◌∙◌, ◌∷◌, ◌≡◌, ◌≢◌, ◌≤◌}
pub use Rattle.std.proofs.lemmas.Bool.Decides.{nat_tests}
pub use Rattle.std.proofs.lemmas.Grind.{common_steps}
pub use Rattle.std.proofs.lemmas.List.{ext_get_or, get_or-map, get_or_read, length-map, length-set, map_more, take_all, take_more}
pub use Rattle.std.proofs.lemmas.List.Elements.{All-from_get_or, All-head, All-push, All-same, All-tail, filter_map-append}
pub use Rattle.std.proofs.lemmas.List.FromFn.{fill_by_all, get_or-map-range_with_len, length-map-range_with_len}
pub use Rattle.std.proofs.lemmas.List.Sums.{count_by-le-length, fold-append, sum_by-cons, sum_by_more_le}
pub use Rattle.std.specs.Io.BufRead.{ends_with_byte, strip_last, take_through}
pub use Rattle.std.specs.Io.KnownBytes.{Consumes, IsAtEnd}
pub use Rattle.text_set.specs.Texts.{with_text}
