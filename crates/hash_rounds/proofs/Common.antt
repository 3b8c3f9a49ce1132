-- What the proofs of this crate share of std, of the crates below and of its own definitions, passed on from one place.
pub use Rattle.hash_rounds.specs.Blocks.{mix_block, unmix_block}
unfoldable pub use Rattle.hash_rounds.specs.Blocks.{spooky_blocks}
pub use Rattle.hash_rounds.specs.Rounds.{lookup3_final_group, lookup3_final_table, lookup3_mix_group, lookup3_mix_table, short_end_group, short_end_table, short_mix_group, short_mix_table, spooky_end_partial_row, spooky_end_partial_rows, spooky_mix_row, spooky_mix_rows}
unfoldable pub use Rattle.hash_rounds.specs.Rounds.{lookup3_final_steps, lookup3_mix_steps, short_end_steps, short_mix_steps, spooky_end_partial_steps, spooky_end_steps, spooky_mix_steps}
pub use Rattle.hash_rounds.specs.Shuffle.{exchanged, shuffle, shuffle_from, shuffle_to, unshuffle}
unfoldable pub use Rattle.hash_rounds.specs.Shuffle.{from_bits}
pub use Rattle.hash_rounds.specs.Steps.{Add, AddData, AddRotated, AreSteps, Rotate, Step, Sub, SubData, SubRotated, Xor, XorRotated, are_apart, is_step, is_turn, opposite, step}
unfoldable pub use Rattle.hash_rounds.specs.Steps.{apply, undo}
pub use Rattle.hash_words.proofs.UndoLemmas.{added, likewise, rotated, told, turned_round, unmoved, xored, ◌▷◌}
pub use Rattle.hash_words.proofs.WordLemmas.{AreWords-at, AreWords-from, no_words, rotl-lt}
pub use Rattle.hash_words.specs.Words.{AreWords, rotl, swap_halves}
pub use Rattle.std.proofs.Common.{All, Bool, IsTrue, List, [], add-zero, ap, arith, bit_and, bit_xor, drop, false, fold, get_or, inl, inr, length, length-append, length-drop, length-take-le, lit<, map, min, nat_le, nat_lt, pow-add, refl, reverse, rules, slice_index, slice_set, suc, sum, sym, take, take-append-drop, true, zero, zero-add, ℕ, ◌%◌, ◌&&◌, ◌*◌, ◌++◌, ◌+◌, ◌-◌, ◌/◌, ◌<◌, ◌==◌, ◌^◌, ◌∙◌, ◌∷◌, ◌≡◌, ◌≢◌, ◌≤◌}
pub use Rattle.std.proofs.lemmas.Bool.{and_parts, cases_lt}
pub use Rattle.std.proofs.lemmas.Bool.Decides.{nat_tests}
pub use Rattle.std.proofs.lemmas.Grind.{fold-append}
pub use Rattle.std.proofs.lemmas.List.Elements.{All-drop, All-from_recursion, All-set}
pub use Rattle.std.proofs.lemmas.Nat.{mod_below, mul-add-lt, mul-mod_first, pow_pos, shr_below, xor_lt}
pub use Rattle.std.specs.Int.{bit_at, from_be_bytes, w64}
pub use Rattle.std.specs.List.{AllByRecursion, flat_map, list_all}
