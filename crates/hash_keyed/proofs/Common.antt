-- What the proofs of this crate share of std, of the crates below and of its own definitions, passed on from one place.
pub use Rattle.hash_keyed.specs.Poly61.{AreKeys, ArePairs, HasNoZeroDivisors, poly_hash, poly_state, poly_step, prime61, word_count, words}
unfoldable pub use Rattle.hash_keyed.specs.Poly61.{words_from}
pub use Rattle.hash_keyed.specs.Poly61Inside.{IsInside, position_of}
pub use Rattle.hash_keyed.specs.Poly61Laws.{behind, byte_behind, byte_fills, byte_in-full, byte_in-part, full_at, le-push, part_at, poly61-is, poly_end-from, poly_end-is}
pub use Rattle.hash_keyed.specs.Poly61State.{ArePowers, MeetAtBoth, Position, SomeTwoMeet, after, as_word, block_sum, full_words, joined_value, poly61, poly_end, share_place, start_at}
unfoldable pub use Rattle.hash_keyed.specs.Poly61State.{byte_in}
pub use Rattle.hashers.proofs.TextLaws.{IsByte, IsText-le_bytes}
pub use Rattle.hashers.specs.Text.{IsText}
unfoldable pub use Rattle.hashers.specs.Words.{le}
pub use Rattle.std.proofs.Common.{All, AllPairs, Bool, List, [], add-zero, add_comm, ap, append-nil, ap₂, arith, cond, count_by, div-add-mod', div-mul-le_self, drop, drop-drop, eq-zero-or-pos, eqb, false, filter, fold, get_or, inl, inr, le_of_eq, le_refl, length, length-drop, lit<, lit≤, lt_of_mul-lt-mul_right, lt_trans, map, max, min, mod-lt, mul-add, mul-le-mul_left, mul-one, mul-zero, not, pos_of_ne-zero, pow_mono, refl, reverse, slice_index, subst, suc, suc-add, suc-le-suc, sum_by, sym, take, true, zero, zero-add, ℕ, ⊎_elim, ◌%◌, ◌*◌, ◌++◌, ◌+◌, ◌-◌, ◌/◌, ◌<◌, ◌^◌, ◌||◌, ◌∙◌, ◌∷◌, ◌≡◌, ◌≢◌, ◌≤◌, ◌⊎◌, append_assoc, length-append, mod-eq_of_lt, pow-suc, pow_pos}
pub use Rattle.std.proofs.Math.Nat.{add-mod, add-mul-mod_self_left, add-mul-mod_self_right, div-add-mod, div-div-eq-div-mul, dvd-add_iff_left, dvd-mul_left_of_dvd, dvd-mul_right, mod-add-mod, mod-mod, mod-mod_of_dvd, mul-mod_right, pow-succ', pow-zero, zero-mod, eq-or-lt_of_le}
pub use Rattle.std.proofs.lemmas.Bool.{both_ways, cases_lt, cases_order, eq-eqb, eqb-false, false≢true, not-true, or_cases, or_left, or_right, eqb-true}
pub use Rattle.std.proofs.lemmas.List.{drop-append-le, drop_all, drop_at, get_or-map, get_or_past, length-map, length-reverse, length-take-le, reverse-append, reverse-reverse, take-append-drop, take-append-le, take-take, take_more, take_all}
pub use Rattle.std.proofs.lemmas.List.Elements.{All-append, All-cons, All-drop, All-filter, All-from_get_or, All-head, All-map, All-nil, All-push, All-tail, All-take, All-weaker, filter_passes}
pub use Rattle.std.proofs.lemmas.List.Filters.{length-filter_both}
pub use Rattle.std.proofs.lemmas.List.Kept.{AllPairs-cons, AllPairs-filter}
pub use Rattle.std.proofs.lemmas.List.Sums.{fold-append, length-filter, sum_by-cons}
pub use Rattle.std.proofs.lemmas.Nat.{le-div, mul-add-lt, mul-le, mul-mod, mul-mod_first, mul-mod_second, mul-pow, pow-add, pow-mod, same_from_place, shl_whole}
pub use Rattle.std.proofs.lemmas.Nat.Gcd.{dvd_of_mod-eq-zero, mod-eq-zero_of_dvd}
unfoldable pub use Rattle.std.specs.Hash.{le_bytes}
pub use Rattle.std.specs.Int.{byte_at, bytes_low_first, ◌∣◌}
pub use Rattle.std.specs.List.{concat, flat_map}
pub use Rattle.std.proofs.lemmas.List.Concat.{concat_is}
pub use Rattle.std.proofs.lemmas.Grind.{common_steps}
pub use Rattle.std.proofs.lemmas.List.Sorted.{All-permutation, IsPermutation-reverse}
pub use Rattle.std.proofs.Math.Arith.{mod-mul}
pub use Rattle.hash_words.proofs.WordLemmas.{le_by_places}
