-- What the proofs of this crate share of std, of the crates below and of its own definitions, passed on from one place.
pub use Rattle.hash_laws.proofs.PieceFolds.{fold-pieces}
pub use Rattle.hash_laws.specs.TextLaws.{IsByte, IsText-from_slice, IsText-le_bytes, IsText-one, joined_more, le_bytes-16, le_bytes-32, le_bytes-64}
pub use Rattle.hash_laws.specs.Text.{IsText}
pub use Rattle.hash_writes.specs.Writes.{IsTakenOut, all_written, joined_written, written}
pub use Rattle.std.proofs.Common.{All, Bor, List, [], ap, append-nil, append_assoc, arith, drop, fold, length, lit<, map, refl, subst, sym, take, take_all, ℕ, ◌++◌, ◌<◌, ◌∙◌, ◌∷◌, ◌≡◌}
pub use Rattle.std.proofs.lemmas.List.Elements.{All-append, All-cons, All-head, All-nil, All-tail}
pub use Rattle.std.specs.Iterator.Adapters.{rev_source}
pub use Rattle.std.specs.Slice.Iter.{iter_rest}
