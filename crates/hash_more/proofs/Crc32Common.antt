-- What the proofs of this crate share of std, of the crates below and of its own definitions, passed on from one place.
pub use Rattle.hash_more.specs.Crc32.{all_ones, bit_out, bits_out, castagnoli, crc_answer, crc_from, crc_step, ieee}
pub use Rattle.hash_more.specs.Crc32Laws.{bits_out-same, crc_back, crc_facts}
pub use Rattle.hash_laws.specs.ByteLaws.{after_below}
pub use Rattle.hash_laws.specs.RecurrenceLaws.{recurrence-append, recurrence-fold, recurrence-nil, recurrence_is_fold}
pub use Rattle.hash_laws.specs.TextLaws.{IsText-from_slice, IsText-to_le_bytes}
pub use Rattle.hash_laws.specs.Text.{IsText}
pub use Rattle.hash_words.proofs.XorLemmas.{xor_cancel, xor_cancel_left, xor_twice}
unfoldable pub use Rattle.hash_words.specs.Words.{le}
pub use Rattle.std.proofs.Common.{List, [], ap, ap₂, arith, bit_xor, drop, fold, get_or, inl, inr, length, length-drop, length-take-le, lit<, map, mod-eq_of_lt, refl, rules, subst, suc, sym, take, take-append-drop, w32, zero, ℕ, ◌%◌, ◌*◌, ◌++◌, ◌+◌, ◌/◌, ◌<◌, ◌^◌, ◌∙◌, ◌∷◌, ◌≡◌, ◌≢◌, ◌≤◌}
pub use Rattle.std.proofs.Math.Nat.{mod-lt, mul-lt-mul_of_pos_right, mul_assoc, mul_comm, pow-succ'}
pub use Rattle.std.proofs.lemmas.List.Elements.{All-drop, All-from_get_or, All-take}
pub use Rattle.std.proofs.lemmas.Nat.{mod-pow-add, pow-add, pow_pos, xor_comm, xor_lt, xor_mod, xor_shr}
pub use Rattle.std.specs.Int.Bits.{xor_assoc, xor_self, xor_shifted, xor_zero_l, xor_zero_r}
