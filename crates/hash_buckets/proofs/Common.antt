-- What the proofs of this crate share of std, of the crates below and of its own definitions, passed on from one place.
pub use Rattle.hash_buckets.specs.Commands.{NeedsMemory, StopsAt, content_after, replies_to, reply_to}
pub use Rattle.hash_buckets.specs.Table.{AreBuckets, HasEachKeyOnce, IsChange, IsPlaced, Table, bucket_content, pairs, pairs_of_each, table_of, value_at}
pub use Rattle.std.proofs.Common.{Bool, Equal, Err, Greater, IsPermutation, IsSomeAnd, Less, List, MatchOption, None, Ok, OnErr, OnOk, Option, Ordering, Result, Some, T, [], ap, append_assoc, arith, bytes_eq, cond, drop, false, flat_map, fold, get_or, get_or-set_other, inl, inr, is_eq, is_some, length, length-append, length-set, nat_cmp, refl, replicate, rules, set, slice_get, subst, suc, sum_by, sym, take, true, vec_capacity, vec_len, zero, ℕ, ⊎_elim, ◌%◌, ◌++◌, ◌+◌, ◌<◌, ◌==◌, ◌∙◌, ◌∷◌, ◌≡◌, ◌≢◌, ◌≤◌, ◌⊎◌}
pub use Rattle.std.proofs.Math.Seq.{map-set_same, take-append_seam, take-nil}
pub use Rattle.std.proofs.lemmas.Bool.Decides.{nat_tests}
pub use Rattle.std.proofs.lemmas.List.{drop-map, get_or-map, length-map, length-replicate, map-append, map-set, nil_from_length, take-map}
pub use Rattle.std.specs.FinMap.{contains_key, empty, entries, entries-from_sorted, entries-insert, entries_sorted, from_entries, from_sorted, get, get-entries, get-from_entries, get-from_sorted, get-insert, get-remove, insert, len, len-empty, len-entries, len-insert, nat_cmp-IsAntisymmetric, same_map, slice_cmp-IsAntisymmetric, remove}
pub use Rattle.std.specs.Global.{Vec}
pub use Rattle.std.specs.List.{AppendsResults, FoldsTo, position, position_or_len}
pub use Rattle.std.proofs.lemmas.Grind.{common_steps, get_or-set_at}
