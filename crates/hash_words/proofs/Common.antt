-- What the proofs of this crate share of std, of the crates below and of its own definitions, passed on from one place.
pub use Rattle.hash_words.specs.Undoes.{IsWord, Undoes, UndoesWords}
pub use Rattle.hash_words.specs.Words.{AreWords, add, sub, swap_halves, xorshift}
unfoldable pub use Rattle.hash_words.specs.Words.{le, rotl}
pub use Rattle.std.proofs.Common.{All, List, [], add-zero, add_comm, ap, append_assoc, ap₂, arith, bit_or, bit_xor, drop, drop_at, fold, get_or, inl, inr, length, length-append, lit<, map, min, pow-suc, refl, reverse, slice_index, subst, suc, sym, take, take-add, take-take, take_at, zero, ℕ, ◌%◌, ◌*◌, ◌++◌, ◌+◌, ◌-◌, ◌/◌, ◌<◌, ◌^◌, ◌∙◌, ◌∷◌, ◌≡◌, ◌≢◌, ◌≤◌, le_of_eq, length-drop, length-take-le, pow-add, take-append-drop}
pub use Rattle.std.proofs.Math.Nat.{div-eq_of_lt, mod-add-mod, mod-eq-sub-mod, mod-eq_of_lt, mul-mod_left, mul-one, mul_assoc, mul_comm, pow-le-pow_right, pow-succ'}
pub use Rattle.std.proofs.lemmas.Bool.{cases_lt}
pub use Rattle.std.proofs.lemmas.List.{drop-append-le, drop_all, drop_more, ext_get_or, get_or-drop, get_or-take, get_or_past, length-take, nil_from_length, reverse-append, take-append-le, drop-drop}
pub use Rattle.std.proofs.lemmas.List.Elements.{All-append, All-cons, All-drop, All-from_get_or, All-from_recursion, All-head, All-nil, All-tail, All-take}
pub use Rattle.std.proofs.lemmas.Nat.{from_le_bytes-to_le_bytes_4, from_le_bytes-to_le_bytes_8, mod-pow-add, mod_below, mod_low, mul-add-lt, mul-mod_first, mul-mod_second, or_shifted, pow_pos, shl-shr, shr-shr, shr_below, shr_high, shr_le, shr_split, xor_comm, xor_lt, xor_shr}
pub use Rattle.std.specs.Int.{bit_at, from_le_bytes, rotate_left, to_le_bytes, w128, w32, w64}
pub use Rattle.std.specs.Int.Bits.{xor_assoc, xor_self, xor_zero_l, xor_zero_r}
pub use Rattle.std.specs.Simd.{first_chunks}
pub use Rattle.std.proofs.Math.ListN.{get_or-eq_default}
pub use Rattle.std.proofs.lemmas.Grind.{fold-append}
pub use Rattle.std.proofs.lemmas.Nat.Bits.{bit_at_cat_low}
