-- What the proofs of this crate share of std, of the crates below and of its own definitions, passed on from one place.
pub use Rattle.hash_rounds.proofs.StepLemmas.{made, of_steps, unmade}
unfoldable pub use Rattle.hash_rounds.specs.Steps.{apply, undo}
pub use Rattle.hash_blocks.specs.SipHash.{after_block, ended, half_round, round_table, start}
unfoldable pub use Rattle.hash_blocks.specs.SipHash.{after_word, folded, last_word, round_steps, rounds, xored}
unfoldable pub use Rattle.hash_blocks.specs.SipHashBack.{before_word, unrounds}
pub use Rattle.hash_words.proofs.UndoLemmas.{found, found_alone, likewise, unmoved, ◌▷◌}
pub use Rattle.std.proofs.Common.{List, [], ap, arith, bit_xor, fold, length, lit<, refl, slice_index, slice_set, suc, sym, zero, ℕ, ◌%◌, ◌*◌, ◌+◌, ◌<◌, ◌^◌, ◌∙◌, ◌∷◌, ◌≡◌}
pub use Rattle.std.proofs.lemmas.List.FromFn.{fill_by_all}
