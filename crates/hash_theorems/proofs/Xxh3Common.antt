-- What the proofs of this crate share of std, of the crates below and of its own definitions, passed on from one place.
pub use Rattle.std.proofs.Common.{◌≡◌, ℕ, List, ◌++◌, length, drop, refl, sym, ◌∙◌, ap, arith, length-append, zero-mul, append_assoc, take_at, drop_at, ◌≢◌, true, false, nat_lt, ◌+◌, ◌-◌, ◌*◌, ◌/◌, ◌%◌, ◌^◌, ◌<◌, ◌≤◌, slice_index, get_or, take, bit_xor, lit<, inl, inr, w64, ap₂, lit≤, length-drop, w32, get_or-take, get_or-drop, length-take, take_all, subst, add_comm, mul-div_cancel, rules, drop-drop, ext_get_or}
pub use Rattle.std.proofs.lemmas.Bool.{cases_lt, OnTrue_from}
pub use Rattle.std.proofs.lemmas.Bool.Decides.{nat_tests}
pub use Rattle.std.proofs.lemmas.List.{nil_from_length}
pub use Rattle.std.proofs.lemmas.List.Elements.{All-take, All-drop}
pub use Rattle.std.proofs.lemmas.Nat.{mod_below, xor_lt, mul-lt, div_below, shr_below, shr_split}
pub use Rattle.std.specs.Int.{to_le_bytes, swap_bytes, bit_at}
pub use Rattle.hash_laws.proofs.ExactlyLemmas.{Exactly-one}
pub use Rattle.hash_laws.specs.TextLaws.{IsByte}
pub use Rattle.hash_laws.specs.Text.{IsText}
pub use Rattle.hash_words.proofs.ByteBlocks.{of_four_bytes, of_halves, of_eight_bytes}
pub use Rattle.hash_words.proofs.PieceLemmas.{IsPiece, le-same}
pub use Rattle.hash_words.proofs.UndoLemmas.{◌▷◌, told, xored, multiplied, shifted, shifted_less, likewise, both, on_first, on_second, added, added_onto, rooted, rotated, solved, found, found_alone}
pub use Rattle.hash_words.proofs.WordLemmas.{word-same, AreWords-at, rotl-lt, rotl_split}
pub use Rattle.hash_words.specs.Undoes.{UndoesWords, Undoes, IsWord}
pub use Rattle.hash_words.specs.Words.{add, le, rotl, xorshift, sub}
pub use Rattle.hash_xxh3.specs.Short.{of_few, of_eight, secret_pair}
unfoldable pub use Rattle.hash_xxh3.specs.Short.{eight_flip, eight_number, few_flip, few_number}
pub use Rattle.hash_xxh3.specs.Words.{word_at, times, turned, half_at}
unfoldable pub use Rattle.hash_xxh3.specs.Words.{length_in, avalanche, avalanche_64, folded_product, length_mix, three_turns}
unfoldable pub use Rattle.hash_xxh3.specs.Xxh3.{xxh3_64_of}
pub use Rattle.std.proofs.lemmas.Grind.{common_steps}
