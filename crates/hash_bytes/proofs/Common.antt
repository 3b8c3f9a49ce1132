-- What the proofs of this crate share of std, of the crates below and of its own definitions, passed on from one place.
pub use Rattle.hash_laws.specs.ByteLaws.{after_below}
pub use Rattle.hash_laws.specs.RecurrenceLaws.{recurrence_is_fold}
pub use Rattle.hash_rounds.proofs.SumLemmas.{digit_sum-lt, from_be_bytes-8, loselose-add, loselose-append, passthrough_of_last, passthrough_sums, sdbm_of_one, sdbm_push, sdbm_sums}
pub use Rattle.hash_rounds.specs.Sums.{digit_sum, loselose_from, passthrough_step}
unfoldable pub use Rattle.hash_rounds.specs.Sums.{passthrough_from, sdbm_from}
pub use Rattle.hash_words.proofs.Chunks.{take_chunk}
pub use Rattle.std.proofs.Common.{List, [], ap, arith, drop, get_or, length, lit<, map, mod-eq_of_lt, mod-lt, refl, subst, suc, sym, take, take-append-drop, take_all, zero, ℕ, ⊎_elim, ◌%◌, ◌*◌, ◌++◌, ◌+◌, ◌-◌, ◌/◌, ◌<◌, ◌^◌, ◌∙◌, ◌≡◌, ◌≤◌}
pub use Rattle.std.proofs.Math.Nat.{add-mod-mod, div-add-mod, mod-add-mod, mul-add-mod_self_left, pow-le-pow_right, pow-suc, pow-zero}
pub use Rattle.std.proofs.lemmas.List.{take_more}
pub use Rattle.std.proofs.lemmas.Nat.{mod_below, mul-mod, mul-mod_first, pow-add, pow-mod}
