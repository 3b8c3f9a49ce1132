-- What the proofs of this crate share of std and of the crates below, passed on from one place.
pub use Rattle.std.proofs.Common.{◌≡◌, ◌≢◌, ◌↔◌, IsTrue, nat_eq, ℕ, zero, suc, ◌+◌, ◌-◌, ◌*◌, ◌/◌, ◌%◌, ◌^◌, ◌<◌, ◌≤◌, Bool, List, [], ◌∷◌, length, take, drop, get_or, bit_xor, refl, sym, ap, ◌∙◌, lit<, arith, inl, inr, subst, ap₂, drop-cons, bit_and, fold, rules}
pub use Rattle.std.proofs.lemmas.Bool.{cases_lt, OnTrue_from}
pub use Rattle.std.proofs.lemmas.Bool.Decides.{Decides-eqb, nat_tests}
pub use Rattle.std.proofs.lemmas.Nat.Bits.{bit_at-trailing_zeros, and_high}
pub use Rattle.std.specs.Int.Bits.{xor_self, xor_zero_l}
pub use Rattle.hash_more.proofs.Crc32Lemmas.{exchanged, low_and_high, bits_out-xor, moved_down}
pub use Rattle.hash_more.specs.Crc32.{all_ones, bits_out, crc_from, crc_answer, ieee, castagnoli}
pub use Rattle.hash_laws.specs.RecurrenceLaws.{recurrence_is_fold, recurrence-fold}
pub use Rattle.hash_laws.specs.TextLaws.{IsText-from_slice}
pub use Rattle.hash_laws.specs.Text.{IsText}
pub use Rattle.hash_laws.proofs.WindowLemmas.{hash_apart, Separates, DifferWithin-fold, window_tells_apart}
pub use Rattle.hash_laws.specs.DifferWithin.{DifferWithin, IsFirstDifference}
pub use Rattle.hash_words.proofs.XorLemmas.{xor_cancel}
pub use Rattle.std.proofs.lemmas.Grind.{common_steps}
