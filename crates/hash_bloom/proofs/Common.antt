-- What the proofs of this crate share of std, of the crates below and of its own definitions, passed on from one place.
pub use Rattle.hash_bloom.specs.Commands.{AnySetsBit, Inserts, SetsBit}
pub use Rattle.hash_bloom.specs.Estimate.{IsExpected, IsNearest, IsWithin, LeavesAtMost, LeavesMore}
pub use Rattle.hash_bloom.specs.File.{IsStored, bytes_of, file_of, seal, title}
unfoldable pub use Rattle.hash_bloom.specs.File.{field, header, sealed}
pub use Rattle.hash_bloom.specs.Filter.{Adds, AllPassIn, Filter, Fits, HasAll, HasBit, IsAmong, IsCovered, IsEmpty, IsFilter, IsProbe, IsSet, LetsFewPass, Passes, best_probes, bit, bits_for_share, count_set, filter_of, place, probe_hash}
pub use Rattle.streams.proofs.HexLemmas.{hex_value-hex, length-hex}
pub use Rattle.streams.specs.Hex.{hex, hex_value}
pub use Rattle.hashers.specs.Fnv.{fnv1a64_basis, fnv1a64_from, fnv1a64_step}
pub use Rattle.std.proofs.Common.{Bool, Err, IsTrue, List, None, Option, Some, [], ap, append_assoc, ap₂, arith, below_more, bit_or, codes, drop, get_or, get_or-set_other, inl, inr, leb, length, lit≤, max, min, pow-add, refl, rules, set, shr-shr, subst, suc, sym, take, take-append-drop, true, zero, ℕ, ⊎_elim, ◌%◌, ◌&&◌, ◌*◌, ◌++◌, ◌+◌, ◌-◌, ◌/◌, ◌<◌, ◌^◌, ◌↔◌, ◌∙◌, ◌∷◌, ◌≡◌, ◌≢◌, ◌≤◌, ◌⊎◌, append-nil}
pub use Rattle.std.proofs.Math.Nat.{add-mod, add-mul-mod_self_right, div-mul-le_self, le_of_mul-le-mul_left, le_of_mul-le-mul_right, lt-div-mul-add, lt-mul-div-succ, lt_of_mul-lt-mul_left, mod-add-mod, mod-eq_of_lt, mul-div-le, mul-le-mul, mul-le-mul_left, mul-le-mul_right, one-le-pow, pow-le-pow_left, pow-suc, pow-zero}
pub use Rattle.std.proofs.lemmas.Bool.{and_from, and_parts, cases_eq, cases_lt, false_from_ne_true, leb-true}
pub use Rattle.std.proofs.lemmas.Grind.{elements, flat_map-append, pow_more, common_steps}
pub use Rattle.std.proofs.lemmas.List.{append_cancel_left, append_cancel_right, flat_map_more, get_or_past, length-append, nil_from_length, take_all, take_more, with_items_is}
pub use Rattle.std.proofs.lemmas.List.Sums.{AllPass-from_list_all, sum_by-cons, sum_by-le-sum_by}
pub use Rattle.std.proofs.lemmas.Nat.{from_le_bytes-to_le_bytes_8, le_bytes_8, ones_cat}
pub use Rattle.std.proofs.lemmas.Nat.Bits.{bit_at-lt, bit_at-suc, bit_at-zero, bit_at_above, bit_at_lowest, bit_at_or, bit_at_set_other, bit_at_set_same, same_from_bits}
pub use Rattle.std.proofs.lemmas.Result.{IfOk-weaker, on_err_weaker, on_ok_weaker}
pub use Rattle.std.specs.Int.{bit_at, from_le_bytes, to_le_bytes}
pub use Rattle.std.specs.Io.KnownBytes.{Appends, Consumes}
pub use Rattle.std.specs.List.{list_all, range_with_len, sum_by}
pub use Rattle.streams.proofs.StreamLemmas.{on_err, part_behind, part_longer}
pub use Rattle.streams.specs.Streams.{AppendsPart}
pub use mir.Syntax.{w64}
pub use Rattle.std.proofs.lemmas.Bool.Decides.{nat_tests, Decides-eqb}
