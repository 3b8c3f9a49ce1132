-- What the proofs of this crate share of std, of the crates below and of its own definitions, passed on from one place.
pub use Rattle.std.proofs.Common.{ℕ, suc, ◌≡◌, ◌≢◌, ◌+◌, ◌-◌, ◌<◌, ◌≤◌, Bool, true, not, cond, ltb, ◌==◌, List, [], ◌++◌, map, length, get_or, take, drop, arith, sym, ap, ◌∙◌, subst, refl, ⊎_elim, inl, inr, filter, None, Some, ◌∷◌, set, zero, T, false, ◌&&◌, Result, Ok, Err, ◌⊎◌, ◌↔◌, IsTrue, reverse, MatchResult, Ordering, Less, Equal, Greater, min, is_some, Option, nat_eq, ◌/◌, if◌then◌else◌, rules, ◌*◌, replicate, ◌^◌, sum, slice_get, sum_by, take_at, Bor, All, AllPairs, Contains, IsPermutation, insert, is_gt, is_lt, remove}
pub use Rattle.std.proofs.lemmas.Bool.{cases_eq, cases_lt, OnTrue_from}
pub use Rattle.std.proofs.lemmas.Bool.Decides.{nat_tests}
pub use Rattle.std.proofs.lemmas.Cmp.{tied_itself, eq_by_cmp_equiv, then_total, on_total, nat_cmp_total}
pub use Rattle.std.proofs.lemmas.Fn.{always_returns_same}
pub use Rattle.std.proofs.lemmas.Grind.{common_steps, elements, moves}
pub use Rattle.std.proofs.lemmas.List.{append-nil, drop_all, map-append, take-map, drop-map, get_or-map, length-map, drop_more, drop-set, get_or_default, get_or-take, take-append-drop, take-set-le, take-take, reverse-append, take_more, get_or_past, get_or-replicate, length-replicate, length-set, same_lists, drop-drop, drop-set-lt, take_more_set, append_assoc, length-take-le}
pub use Rattle.std.proofs.lemmas.List.Edits.{get_or-insert_at}
pub use Rattle.std.proofs.lemmas.List.Elements.{All-contains, Contains-append_cases, All-append, All-drop, All-filter, All-map, All-take, filter_passes, All-cons, All-nil, All-push, Contains-append_left, Contains-push, Contains-append_right}
pub use Rattle.std.proofs.lemmas.List.Folds.{Any-from_list_any, list_any-from_Any, sum_by-replicate}
pub use Rattle.std.proofs.lemmas.List.Kept.{AllPairs-filter, AllPairs-cons}
pub use Rattle.std.proofs.lemmas.List.Sorted.{Contains-permutation, IsPermutation-append_right, IsPermutation-filter_both, IsPermutation-trans, IsPermutation-append_comm, IsPermutation-append_left, IsPermutation-cons, IsPermutation-map, IsPermutation-reverse, searchable_from_sorted, All-permutation, sorted_far, ranks_by, IsPermutation-refl, IsPermutation-sym, length_permutation, IsPartitionPoint-from_clause, IsPartitionedBy-ltb}
pub use Rattle.std.proofs.lemmas.List.Sums.{fold-append, sum_by-append, sum_by-cons, sum_by-set}
pub use Rattle.std.specs.Cmp.Lexicographic.{slice_cmp, nat_list_cmp_total}
pub use Rattle.std.specs.FinMap.{find, put, is_sorted, slice_cmp-IsAntisymmetric, nat_cmp-IsAntisymmetric}
pub use Rattle.std.specs.Fn.{FnReturnsAt}
pub use Rattle.std.specs.List.{IsAllAdjacentAnswer, IsDistinct, list_any}
pub use Rattle.std.specs.List.Sorted.{IsSorted, IsBinarySearchResult, IsSearchInRange, IsSortedBy, IsNonDecreasingBy}
pub use Rattle.std.specs.Ordering.{nat_cmp, is_eq, eq_by_cmp, ordering_reverse, ordering_then, is_le, is_some_and, partial_ordering_then}
pub use Rattle.hashers.specs.Text.{texts}
pub use Rattle.text_set.proofs.TextMapLemmas.{alike, get_insert, get_remove, removal_undoes_insert, not_same, order_does_not_show, removal_of_nothing, same, same_itself, same_key, get_remove_other, get_remove_same}
pub use borrow.Author.Tests.{eqb-true, ltb-true, ltb-false}
pub use Rattle.hash_ring.specs.Points.{ArePoints, IsBefore, IsGapAt, IsNamedAt, IsPointOfItsNode, IsRing, IsStart, closed_up, index_round, left_without, name_at, names_at, node_at, nodes_of, opened_up, pair_of, pairs, points_of, ring_of}
pub use Rattle.hash_ring.specs.Ring.{AreOwners, AreShares, AreStretches, HasPoint, IsFirst, IsFirstToPass, IsOwner, IsPointOf, MovesOnlyFrom, MovesOnlyTo, Nodes, Stretch, point, share_of, turn, without}
pub use Rattle.hash_ring.specs.declared.Node.{Node}
pub use Rattle.hash_ring.specs.declared.points.Point.{Point}
pub use Rattle.std.proofs.lemmas.Map.Views.{Contains-from_any, list_any-from_Contains}
pub use Rattle.std.proofs.lemmas.Map.Keys.{IsDistinct-IsPermutation, IsDistinct-from_apart, apart_from_distinct}
pub use Rattle.std.proofs.Math.Seq.{take-append_seam}
pub use Rattle.std.proofs.lemmas.List.FromFn.{get_or-map-range_with_len, length-map-range_with_len, map-range_with_len_more}
pub use Rattle.std.proofs.lemmas.Result.{IfOk-weaker}
