-- What the proofs of this crate share of std, of the crates below and of its own definitions, passed on from one place.
pub use Rattle.hash_keyed.proofs.Collisions.{few_keys_meet, pairs-is}
unfoldable pub use Rattle.hash_keyed.proofs.Collisions.{pairs}
pub use Rattle.hash_keyed.proofs.NumberLemmas.{le-le_bytes, le_bytes-halves, length-le_bytes}
pub use Rattle.hash_keyed.specs.Poly61.{AreKeys, prime61, word_count}
pub use Rattle.hash_keyed.specs.Poly61Laws.{poly61-is}
pub use Rattle.hash_keyed.specs.Poly61State.{Position, after, as_word, byte_in, poly61, poly_end, start_at}
pub use Rattle.hash_map_keys.specs.KeyState.{after_write, answer_of, fresh_at}
unfoldable pub use Rattle.hash_map_keys.specs.KeyState.{rest_after, share, word_of}
pub use Rattle.hash_map_keys.specs.MapKeys.{AreMapKeys, NeitherBegins, key_words, map_hash}
unfoldable pub use Rattle.hash_map_keys.specs.MapKeys.{eights, last_word, wides}
pub use Rattle.hash_map_keys.specs.Pieces.{begun_at, byte_step}
unfoldable pub use Rattle.hash_map_keys.specs.Pieces.{piece_step}
pub use Rattle.hash_map_keys.specs.declared.hasher.MapHasher.{MapHasher}
pub use Rattle.hash_map_keys.specs.declared.keys.MapKeys.{MapKeys}
pub use Rattle.hash_map_keys.specs.Numbers.{AreLists, AreTables, AreWords, have_hashes, number_hash, pair_hash, share_place, words_hash}
unfoldable pub use Rattle.hash_map_keys.specs.Numbers.{dot}
pub use Rattle.hash_words.proofs.ByteLemmas.{le-append, le-begins, le-few, le-power}
pub use Rattle.hash_words.proofs.PieceLemmas.{le-same}
pub use Rattle.hash_words.proofs.UndoLemmas.{multiplied, shifted, told, xored, ◌▷◌}
pub use Rattle.hash_words.proofs.WordLemmas.{le-to_le_bytes-64, le_by_places}
pub use Rattle.hash_words.proofs.XorLemmas.{xor_cancel_left, xored_64}
pub use Rattle.hash_words.specs.Undoes.{UndoesWords}
pub use Rattle.hash_xxh3.specs.Xxh3.{xxh3_64_of}
pub use Rattle.hashers.proofs.SumLemmas.{sum_by-add, sum_by-none, sum_by-same}
pub use Rattle.hashers.proofs.TextLaws.{IsByte, IsText-from_slice, IsText-le_bytes, IsText-to_le_bytes}
unfoldable pub use Rattle.hashers.specs.Counts.{meetings}
pub use Rattle.hashers.specs.Text.{IsText}
pub use Rattle.hashers.specs.Words.{xorshift}
unfoldable pub use Rattle.hashers.specs.Words.{le}
pub use Rattle.std.proofs.Common.{All, AllPairs, Bool, List, [], add_comm, ap, append_assoc, ap₂, arith, bit_xor, cond, count_by, drop, eqb, eqb-true, false, filter, fold, get_or, inl, inr, length, length-drop, lit<, lit≤, map, max, min, mod-eq_of_lt, mod-lt, nat_eq, pow-suc, pow_mono, refl, slice_index, subst, suc, sum_by, sym, take, true, w64, zero, ℕ, ◌%◌, ◌&&◌, ◌*◌, ◌++◌, ◌+◌, ◌-◌, ◌/◌, ◌<◌, ◌^◌, ◌∙◌, ◌∷◌, ◌≡◌, ◌≢◌, ◌≤◌}
pub use Rattle.std.proofs.Math.ListN.{drop_of_length-le}
pub use Rattle.std.proofs.Math.Nat.{add-mul-mod_self_left, div-add-mod, div-div-eq-div-mul, div-eq_of_lt, div-lt_iff_lt-mul, le_of_mul-le-mul_left, mul-mod_right}
pub use Rattle.std.proofs.Math.Pow.{pow_mono}
pub use Rattle.std.proofs.Math.Seq.{drop-append-add, drop-append_seam, take-add, take-append-add, take-append_seam, take-length}
pub use Rattle.std.proofs.lemmas.Bool.{cases_Bool, cases_lt, cases_order, eq-eqb, eqb-true, false≢true, le-ltb, lt-ltb, true≢false}
pub use Rattle.std.proofs.lemmas.Bool.Decides.{Decides-eqb, eqb_tells}
pub use Rattle.std.proofs.lemmas.List.{append-nil, drop-append-le, drop-drop, drop_min, get_or-map, length-append, length-map, length-take, length-take-le, nil_from_length, take-append-drop, take-append-le, take-take, take_all, take_min}
pub use Rattle.std.proofs.lemmas.List.Elements.{All-append, All-cons, All-drop, All-filter, All-head, All-map, All-nil, All-tail, All-take, filter_passes}
pub use Rattle.std.proofs.lemmas.List.Folds.{Any-from_list_any}
pub use Rattle.std.proofs.lemmas.List.Kept.{AllPairs-cons, AllPairs-filter}
pub use Rattle.std.proofs.lemmas.List.Sums.{fold-append, length-filter, sum_by-cons}
pub use Rattle.std.proofs.lemmas.Map.Made.{IsDistinct-from_AllPairs}
pub use Rattle.std.proofs.lemmas.Map.Steps.{length-le_from_distinct_below}
pub use Rattle.std.proofs.lemmas.Nat.{mod-pow-add, mul-add-lt, mul-le, pow-add, pow_pos, shr_high}
pub use Rattle.std.specs.Borrow.{Bor}
pub use Rattle.std.specs.Cmp.Derive.{both_true}
unfoldable pub use Rattle.std.specs.Hash.{le_bytes}
pub use Rattle.std.specs.Int.{to_le_bytes}
pub use Rattle.std.specs.List.{concat, count_by, list_any}
pub use Rattle.std.specs.Prelude.{if◌then◌else◌, nat_lt}
pub use Rattle.std.specs.declared.option.Option.{Option}
pub use Rattle.std.specs.declared.option.Option.TheVariants.{None, Some}
