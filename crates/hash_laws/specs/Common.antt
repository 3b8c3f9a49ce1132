-- What the proofs of this crate share of std, of the crates below and of its own definitions, passed on from one place.
pub use Rattle.hash_laws.specs.Text.{IsText, joined, texts}
pub use Rattle.std.proofs.Common.{All, Bor, Fits, List, [], ap, arith, drop, flat_map, fold, get_or, length, lit<, map, refl, rules, slice_index, subst, suc, sym, take, w8, zero, ℕ, ⊎_elim, ◌%◌, ◌*◌, ◌++◌, ◌+◌, ◌-◌, ◌/◌, ◌<◌, ◌^◌, ◌↔◌, ◌∙◌, ◌∷◌, ◌≡◌, ◌≢◌, ◌≤◌}
pub use Rattle.std.proofs.lemmas.List.{at_drop_more, drop_all, flat_map_more, length-drop, nil_from_length, reverse-append, take-append-drop, take_more}
pub use Rattle.std.proofs.lemmas.List.Elements.{All-append, All-cons, All-from_get_or, All-head, All-nil, All-tail}
