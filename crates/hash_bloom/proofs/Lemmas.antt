-- What the answers of this crate share of its lemmas, with what Common passes on.
unfoldable pub use Rattle.hash_bloom.proofs.Common.{header}
pub use Rattle.hash_bloom.proofs.Common.{ap, refl, arith, Filter, length, ◌∙◌, with_items_is, ◌%◌, rules, place, ◌≡◌, HasAll, probe_hash, ◌<◌, ◌^◌, get_or, ◌≢◌, ◌/◌, ℕ, count_set, ◌↔◌, ◌⊎◌, IsTrue, HasBit, IsAmong, ⊎_elim, ◌+◌, ◌-◌, ◌*◌, ◌≤◌, subst, IsWithin, LeavesAtMost, LeavesMore, sym, mul-le-mul_right, pow-le-pow_left, IsNearest, Some, Err, hex, hex_value, hex_value-hex, ◌++◌, Consumes, bytes_of, seal, filter_of, to_le_bytes, fnv1a64_basis, fnv1a64_from, w64, Appends, AppendsPart, on_ok_weaker, on_err_weaker, on_err, append-nil, ap₂, bit_or, cases_lt, get_or_past}
pub use Rattle.hash_bloom.proofs.FileLemmas.{field_is, field_read, behind_numbers, behind_title, header_parts, header_read, left_behind, same_field, bytes_tell_words, file_left, file_parts, file_read, word_read, hash_more, file_written, hash_begun, line_begun, word_begun, word_written}
pub use Rattle.hash_bloom.proofs.Found.{added_is_filter, probe_below, passes_still, passes_added, joined_is_filter, found_exactly, passes_joined}
pub use Rattle.hash_bloom.proofs.Ones.{count_set-le, ones_of_words}
pub use Rattle.hash_bloom.proofs.Places.{next_hash, next_step, all_more, step_of, set_more, before_more}
pub use Rattle.hash_bloom.proofs.WordLemmas.{clear_beyond, united}
pub use Rattle.hash_bloom.proofs.Zeros.{expected_both, expected_first, few, leaves_at_most, leaves_more, more_before, nearest}
