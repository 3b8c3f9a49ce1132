-- What the proofs of this crate share of std, of the crates below and of its own definitions, passed on from one place.
pub use Rattle.hash_laws.specs.TextLaws.{IsByte, IsText-from_slice, IsText-one}
pub use Rattle.hash_laws.specs.Text.{IsText}
pub use Rattle.hash_laws.specs.DifferWithin.{AgreeFrom, AgreeOutside, AgreeUnder, DifferAtOnePlace, DifferInOne, DifferInOneBlock, DifferWithin, IsFirstDifference}
pub use Rattle.std.proofs.Common.{Bool, Fits, IsTrue, List, [], ap, ap₂, arith, bit_and, div-add-mod', drop, fold, get_or, inl, inr, length, length-append, length-drop, nat_eq, refl, suc, sym, take, w8, zero, ℕ, ⊎_elim, ◌%◌, ◌*◌, ◌++◌, ◌+◌, ◌-◌, ◌/◌, ◌<◌, ◌↔◌, ◌∙◌, ◌∷◌, ◌≡◌, ◌≢◌, ◌≤◌, ◌⊎◌}
pub use Rattle.std.proofs.lemmas.Bool.{OnTrue_from, cases_eq, cases_lt}
pub use Rattle.std.proofs.lemmas.Bool.Decides.{Decides-eqb, nat_tests}
pub use Rattle.std.proofs.lemmas.List.{append_cancel_left, append_cancel_right, get_or-append_right, get_or_append_left, get_or_past}
pub use Rattle.std.proofs.lemmas.Nat.{and_le_r, div-mul-add, le-div, mod_below}
pub use Rattle.std.proofs.lemmas.Slice.Eq.{slice_eq-Decides}
pub use Rattle.std.specs.Cmp.Lexicographic.{pointwise}
