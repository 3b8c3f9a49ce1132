-- What the proofs of this crate share of std and of the crates below, passed on from one place.
pub use Rattle.std.proofs.Common.{◌≢◌, ℕ, ◌^◌, List, lit<, ◌≡◌, ◌<◌, ◌≤◌, ◌+◌, ◌*◌, ◌%◌, zero, suc, Bool, true, false, cond, eqb, [], ◌∷◌, length, refl, ap, sym, ◌∙◌, arith, IsPermutation, ◌-◌, ◌/◌, bit_xor, bit_and, All, AllPairs, count_by, get_or, ⊎_elim, bytes_eq, subst, pow-suc, fold, flat_map}
pub use Rattle.std.proofs.lemmas.Bool.{eqb-false, ne_eqb, cases_lt, cases_Bool, false≢true}
pub use Rattle.std.proofs.lemmas.List.Elements.{All-nil, All-cons, All-head, All-tail}
pub use Rattle.std.proofs.lemmas.List.Sums.{sum_by-cons, sum-map}
pub use Rattle.std.proofs.lemmas.Nat.{xor_shr, xor_lt, mod_below}
pub use Rattle.std.proofs.lemmas.Nat.Bits.{and_high}
pub use Rattle.hash_bytes.specs.Fnv.{fnv1a32_step, fnv1a64_step, fnv1a32_from, fnv1a32_basis, fnv1a64_from, fnv1a64_basis}
pub use Rattle.hash_bytes.specs.Oz.{djb2_step, djb2_from}
pub use Rattle.hash_bytes.specs.OzLaws.{djb2_facts, sdbm_facts}
pub use Rattle.hash_fx.specs.Fx.{fx32, fx32_step, words32, fx64, fx64_step, words64}
pub use Rattle.hash_laws.specs.RecurrenceLaws.{recurrence_is_fold, recurrence-pieces, recurrence-fold}
pub use Rattle.hash_laws.specs.Recurrence.{recurrence}
pub use Rattle.hash_laws.specs.Text.{IsText}
pub use Rattle.hash_rounds.specs.Sums.{sdbm_from, sdbm_step}
pub use Rattle.hash_laws.proofs.WindowLemmas.{hash_apart, Separates, window_tells_apart}
pub use Rattle.hash_laws.specs.DifferWithin.{DifferWithin}
pub use Rattle.hash_words.proofs.XorLemmas.{xor_cancel, xor_cancel_left, xor_block_kept, xored_32, xored_64}
pub use Rattle.hash_writes.specs.Writes.{all_written, written}
