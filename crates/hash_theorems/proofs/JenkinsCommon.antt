-- What the proofs of this crate share of std, of the crates below and of its own definitions, passed on from one place.
pub use Rattle.std.proofs.Common.{◌≡◌, ◌+◌, ◌-◌, ◌≤◌, ◌++◌, ◌∙◌, ℕ, lit<, List, length, slice_index, take, replicate, refl, sym, ap, arith, inl, inr, ⊎_elim, length-append, ◌≢◌, ◌%◌, ◌*◌, ◌/◌, ◌<◌, ◌^◌, ◌∷◌, [], drop, fold, map, reverse, w32, ap₂, flat_map, nat_lt, true, w64, All, slice_set, suc, zero, get_or, add_comm, add-zero, mod-eq_of_lt, length-set, get_or-set_same, rules}
pub use Rattle.std.proofs.lemmas.Bool.{cases_lt, OnTrue_from}
pub use Rattle.std.proofs.lemmas.Bool.Decides.{nat_tests, Decides-eqb}
pub use Rattle.std.proofs.lemmas.Grind.{fold-append, common_steps}
pub use Rattle.std.proofs.lemmas.List.{append_assoc, length-replicate, replicate-append-replicate, take_at, drop_at, get_or_append_left, get_or-append_right, drop_all, take_all, drop-replicate, append_cancel_left, length-drop, length-take-le, nil_from_length, take-append-drop, set-get_or, length-map}
pub use Rattle.std.proofs.lemmas.List.Elements.{All-append, All-replicate, All-head, All-tail, All-nil, All-map}
pub use Rattle.std.proofs.lemmas.Nat.{mod_below, pow_pos}
pub use Rattle.std.specs.Int.{to_le_bytes, Width}
pub use Rattle.std.specs.Simd.{first_chunks}
pub use Rattle.hash_jenkins.proofs.Lookup3Lemmas.{drop_eight, lookup3_alike}
pub use Rattle.hash_jenkins.specs.Filled.{zero_filled}
pub use Rattle.hash_jenkins.specs.Lookup3.{add_block, lookup3_answer, lookup3_from, lookup3_piece, lookup3_words, mix_block, start, third_word}
unfoldable pub use Rattle.hash_jenkins.specs.Lookup3.{last_block}
pub use Rattle.hash_jenkins.specs.Spooky.{first_two, short_words, spooky, add_chunk, short_start, short_words_v1, spooky_v1}
unfoldable pub use Rattle.hash_jenkins.specs.Spooky.{chunks_from}
pub use Rattle.hash_laws.specs.TextLaws.{IsByte, IsText-to_le_bytes, IsText-from_slice, rest_more}
pub use Rattle.hash_laws.specs.Exactly.{ExactlyTexts}
pub use Rattle.hash_laws.specs.Text.{IsText, texts}
pub use Rattle.hash_rounds.proofs.RoundLemmas.{words-listed, AreFourWords, short_end-steps, stepped, AreNWords, short_mix-steps, stepped-AreFourWords}
pub use Rattle.hash_rounds.specs.Spooky.{short_mix, short_end}
pub use Rattle.hash_rounds.specs.Steps.{AreSteps, Step, AddData}
unfoldable pub use Rattle.hash_rounds.specs.Steps.{apply, undo}
pub use Rattle.hash_rounds.proofs.StepLemmas.{of_steps}
pub use Rattle.hash_laws.proofs.OneGroup.{DifferInOne-iff-agree, middles-DifferInOne}
pub use Rattle.hash_laws.specs.DifferWithin.{DifferInOne}
pub use Rattle.hash_words.proofs.PieceLemmas.{IsPiece, all_words-same, part-same, rest-same, texts-same, first_chunks-pieces, length-first_chunks}
pub use Rattle.hash_words.proofs.ByteBlocks.{of_eight_bytes, of_four_bytes}
pub use Rattle.hash_words.proofs.UndoLemmas.{folded, told, solved, ◌▷◌, likewise}
pub use Rattle.hash_words.specs.Undoes.{Undoes, IsWord}
pub use Rattle.hash_words.proofs.WordLemmas.{AreWords-at, AreWords-from, no_words}
pub use Rattle.hash_words.specs.Words.{add_at, sub, add}
unfoldable pub use Rattle.hash_words.specs.Words.{le, rotl}
unfoldable pub use Rattle.hash_words.specs.Pieces.{le_words, pieces}
pub use Rattle.hash_theorems.specs.Stretch.{differences, missing, stretch_of}
pub use Rattle.hash_jenkins.specs.Zeros.{AddsZeros, HaveOtherWords}
