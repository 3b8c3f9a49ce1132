-- What the proofs of this crate share of std, of the crates below and of its own definitions, passed on from one place.
pub use Rattle.std.proofs.Common.{suc, zero, Some, ◌≢◌, ℕ, ◌+◌, ◌≤◌, true, false, List, [], ◌∷◌, ◌++◌, length, take, drop, map, ap, sym, ◌∙◌, refl, arith, length-append, inl, inr, cond, ◌||◌, All, get_or, fold, append-nil, append_assoc, take-append-drop, IsPermutation, bytes_eq, ◌⊎◌, Bool, not, ◌&&◌, None, replicate, Contains, subst, set, ◌*◌, eqb, w8, ◌==◌, rules, ◌-◌, ◌/◌, ◌<◌, ◌≡◌, sum_by, Option, Ordering, Less, Equal, Greater}
pub use Rattle.std.proofs.lemmas.Bool.{cases_Bool, cond_both, or_parts, cases_eq, both_ways, false_from_ne_true, not-true, not-false, and_parts, and_left, cases_lt, eqb-false, eqb-true}
pub use Rattle.std.proofs.lemmas.Bool.Decides.{nat_tests}
pub use Rattle.std.proofs.lemmas.Grind.{common_steps, flat_map-append, elements}
pub use Rattle.std.proofs.lemmas.List.{map-append, length-set, get_or-set_same, get_or-set_other, get_or_default, get_or_append_left}
pub use Rattle.std.proofs.lemmas.List.Elements.{All-head, All-tail, All-push, All-nil, All-from_recursion, recursion_from_All, All-set, All-contains, All-replicate}
pub use Rattle.std.proofs.lemmas.List.Folds.{list_any-append, list_any_none, Any-from_list_any, list_any_at, list_any_more, sum_by-replicate}
pub use Rattle.std.proofs.lemmas.List.Sums.{fold-append, sum_by-cons, sum_by-set}
pub use Rattle.std.proofs.lemmas.Simd.{length-chunk, bitmask_splat, leading_from_mask_l, trailing_mask_l, run_in_chunk_fails, run_in_chunk_stops}
pub use Rattle.std.proofs.lemmas.Slice.Eq.{bytes_eq-Decides}
pub use Rattle.std.specs.Io.BufRead.{ends_with_byte, strip_last}
pub use Rattle.std.specs.List.{onto_first, AllByRecursion, IsDistinct, remove, count_by, list_any}
unfoldable pub use Rattle.std.specs.Hash.FoldHasher.{folded_multiply, read_short, read_u32, read_u64}
unfoldable pub use Rattle.text_set.specs.Keyed.{mix_blocks, write}
pub use Rattle.text_set.specs.Lines.{IsBare, IsLineEnd, as_line_by, line_texts, lines_by}
pub use Rattle.text_set.specs.Slots.{AreFound, AreTakenUpTo, FirstRound, HoldsUpTo, IsRefilled, IsTable, IsTagged, Names, free_count, home_of, is_taken, some_taken, stops, text_of}
pub use Rattle.text_set.specs.Store.{Rises, cut}
pub use Rattle.text_set.specs.Texts.{EachOnce, StandsAt, has, with_text}
pub use Rattle.text_set.specs.declared.slots.Slot.{Slot}
pub use Rattle.text_set.specs.declared.slots.TheConstants.{EMPTY, NOWHERE}
pub use Rattle.std.proofs.lemmas.List.Sorted.{IsPermutation-cons, IsPermutation-refl, IsPermutation-remove, IsPermutation-sym, IsPermutation-trans, list_any-IsPermutation, sum_by-IsPermutation}
pub use Rattle.std.proofs.lemmas.Map.Keys.{IsDistinct-IsPermutation, IsDistinct-from_apart, IsDistinct-head, IsDistinct-tail}
pub use Rattle.std.proofs.lemmas.Cmp.{nat_list_eq_equiv}
pub use Rattle.std.proofs.Math.Seq.{get_or-append_seam}
