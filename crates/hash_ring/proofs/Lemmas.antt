-- What the answers of this crate share of its lemmas, with what Common passes on.
pub use Rattle.hash_ring.proofs.Common.{◌≡◌, ◌∙◌, ◌≤◌, ◌++◌, map, ap, sym, subst, refl, length, get_or, arith, length-map, IsPermutation-refl, get_or-insert_at, Node, IsRing, nodes_of, opened_up, pair_of, pairs, points_of, insert, IsPermutation, Bool, List, T, ◌↔◌, IsTrue, is_sorted, All-map, All-permutation, IsPermutation-map, IsPermutation-sym, length_permutation, order_does_not_show, ArePoints, ◌<◌, get_or_default, nat_tests, eqb-true, Point, IsOwner, name_at, ring_of, ℕ, min, texts, AreOwners, names_at, node_at, All, IfOk-weaker, Some, take, [], get_or-map, remove, ◌≢◌, ⊎_elim, cases_lt, AreShares, Nodes, ◌+◌, inl, inr, FnReturnsAt, false, take_at, IsPermutation-append_right, IsPermutation-trans, ◌∷◌, Bor, map-append, take_more, rules, always_returns_same, is_lt, length-take-le, ◌-◌, OnTrue_from, ltb, IsPartitionPoint-from_clause, IsPartitionedBy-ltb, ltb-true, ltb-false, ◌/◌, IsBefore, AllPairs, drop, index_round, nat_eq, list_any, drop-drop, drop-set-lt, take_more_set, All-push, point, take-append_seam, common_steps, ◌^◌}
pub use Rattle.hash_ring.proofs.Edits.{pairs_insert, ring_merged, over, pairs_remove, opened_in_order, all_gone_over, ring_without}
pub use Rattle.hash_ring.proofs.Laws.{moves_to, moves_from}
pub use Rattle.hash_ring.proofs.Merge.{IsMerged, all_in_order, all_merged, front_kept, last_other, left_more, placed, right_more}
pub use Rattle.hash_ring.proofs.Names.{absent, found, gap_read, inserted, len_of, KeysDiffer-permutation, all_put_in, by_bytes, entries_are, rising_differ, sorted_rise, entries_of, none_unchanged, removed, Pairs, read, rise_exactly}
pub use Rattle.hash_ring.proofs.Owners.{name_here, no_owner, no_points, none, different, first_to_pass, name_read, refused_all, refused_more, refused_start, round_of, AreRefusedRound, spot, one_owner, first_owner, AreNamesRound, among_exactly, as_many, name_among, node_among, round_all, round_full, round_new, round_old, not_gone, stays}
pub use Rattle.hash_ring.proofs.PointLemmas.{is_there, AreThese, ArePoints-permutation, in_order, one_node_more, sorted_exactly, places_rise, IsWindow, narrowed, within_half, before_if_less, before_if_not_less, one_start, one_more}
pub use Rattle.hash_ring.proofs.Shares.{none_yet, first_read, last_places, next_point, AreSharesUpto}
