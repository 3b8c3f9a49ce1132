-- What the proofs of this crate share of std, of the crates below and of its own definitions, passed on from one place.
pub use Rattle.hash_fx.specs.Fx.{fx32, fx32_step, fx64, fx64_step, words32, words64}
pub use Rattle.hash_laws.specs.ByteLaws.{Undoing, undoing_all, undoing_more, undoing_none}
pub use Rattle.hash_laws.specs.RecurrenceLaws.{recurrence-fold, recurrence-nil}
pub use Rattle.hash_laws.specs.Recurrence.{from_last}
unfoldable pub use Rattle.hash_laws.specs.Recurrence.{recurrence}
unfoldable pub use Rattle.hash_words.specs.Pieces.{pieces}
pub use Rattle.hash_words.specs.Words.{le}
pub use Rattle.std.proofs.Common.{List, [], ap, append_assoc, ap₂, arith, bit_xor, drop, eqb-true, fold, length, lit<, map, refl, reverse, subst, sym, take, take_all, ℕ, ◌%◌, ◌*◌, ◌++◌, ◌+◌, ◌-◌, ◌/◌, ◌<◌, ◌^◌, ◌∙◌, ◌∷◌, ◌≡◌}
pub use Rattle.std.proofs.lemmas.List.{append-nil, drop_all, length-append, length-map, map-append, nil_from_length}
pub use Rattle.std.proofs.lemmas.List.Sums.{fold-append, fold_more}
pub use Rattle.std.proofs.lemmas.Nat.{mod_below, xor_comm}
pub use Rattle.std.specs.Iterator.Adapters.{rev_source}
pub use Rattle.std.specs.Simd.{first_chunks}
pub use Rattle.std.specs.Slice.Iter.{iter_rest}
