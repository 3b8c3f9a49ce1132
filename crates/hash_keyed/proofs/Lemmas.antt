-- What the answers of this crate share of its lemmas, with what Common passes on.
unfoldable pub use Rattle.hash_keyed.proofs.Common.{byte_in, le_bytes, le}
pub use Rattle.hash_keyed.proofs.Common.{◌%◌, ap, ◌∙◌, fold, concat, prime61, Position, after, start_at, arith, refl, ◌≡◌, ◌+◌, ◌-◌, ◌/◌, ◌^◌, ap₂, sym, poly_state, as_word, joined_value, length, eqb-false, eqb-true, ◌*◌, mod-mod, position_of, byte_in-part, byte_in-full, part_at, full_at, common_steps, fold-append, poly61, List, ℕ, ◌<◌, ◌≤◌, drop, take, slice_index, length-drop, drop-drop, All-from_get_or, All-drop, IsText, IsByte, take_all}
pub use Rattle.hash_keyed.proofs.CodeLemmas.{places, ended_is, pushed-lt, pushed_small, answer_is, eight_more, seven_more, eight_there, low_word, high_word, four_there, chunk_more, LeadsOn}
pub use Rattle.hash_keyed.proofs.NumberLemmas.{number_kept, number_fills, number_fills_two, rest-lt, le_bytes-halves}
pub use Rattle.hash_keyed.proofs.PartLemmas.{joined-value, joined_is, rest-length, state_is, power_odd, power_even}
pub use Rattle.hash_keyed.proofs.WriteLemmas.{answer_of_text}
