-- What the proofs of this crate share of std, of the crates below and of its own definitions, passed on from one place.
pub use Rattle.hash_cuts.specs.Cuts.{AreSizes, Cutting, HasSizes, chunk_ends, chunks, cutting, is_cut}
unfoldable pub use Rattle.hash_cuts.specs.Cuts.{chunks_upto, ends_from, first_cut}
pub use Rattle.hash_cuts.specs.Gear.{gear, gear_at, gear_of, gear_step}
pub use Rattle.hash_cuts.specs.Reading.{CutsAll, CutsRead, GivesFirst, IsBegun, Taken, Takes}
pub use Rattle.std.proofs.Common.{All, Bool, List, None, OnOk, Option, Some, [], ap, ap₂, arith, div-lt_iff_lt-mul, drop, false, get_or, get_or-take, inl, inr, length, length-append, lit<, map, min, nat_lt, not, pow-suc, refl, reverse, slice_index, slice_set, subst, suc, sym, take, true, zero, ℕ, ◌%◌, ◌*◌, ◌++◌, ◌+◌, ◌-◌, ◌/◌, ◌<◌, ◌^◌, ◌∙◌, ◌∷◌, ◌≡◌, ◌≢◌, ◌≤◌, ◌⊎◌, append_assoc, get_or-drop, take_all, rules}
pub use Rattle.std.proofs.Math.Seq.{drop-append_seam, take-append_seam}
pub use Rattle.std.proofs.lemmas.Bool.{cases_lt, false≢true, not-false, not-true}
pub use Rattle.std.proofs.lemmas.Bool.Decides.{Decides-eqb, nat_tests}
pub use Rattle.std.proofs.lemmas.Grind.{elements, reverse_onto, common_steps}
pub use Rattle.std.proofs.lemmas.List.{append-nil, append_cancel_left, drop-append-le, drop-set-lt, drop-take, length-reverse, map-append, nil_from_length, reverse-reverse, take-append-drop, take-append-le, take_more_set, drop-drop, length-drop, length-set, length-take, length-take-le}
pub use Rattle.std.specs.Io.KnownBytes.{IsAtEnd}
pub use Rattle.std.specs.List.{concat, prefix_len, range_with_len}
pub use Rattle.std.proofs.lemmas.List.Elements.{All-cons, All-nil}
pub use Rattle.std.proofs.lemmas.List.Sums.{prefix_len-le-length, prefix_len_passes, prefix_len_stops}
pub use Rattle.std.proofs.lemmas.List.FromFn.{get_or-range_with_len, length-range_with_len}
pub use Rattle.std.proofs.KnownBytes.{Consumes-trans}
pub use Rattle.std.proofs.lemmas.Nat.{mod_below}
