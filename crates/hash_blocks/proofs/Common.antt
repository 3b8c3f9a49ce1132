-- What the proofs of this crate share of std, of the crates below and of its own definitions, passed on from one place.
pub use Rattle.hash_blocks.specs.BlocksLaws.{IsKept-after, IsPosition-kept, blocks-append, blocks_one, blocks_short, position-nil, stands_at_start, tail-append, tail_short}
pub use Rattle.hash_laws.specs.TextLaws.{IsByte, IsText-from_slice, IsText-to_le_bytes}
pub use Rattle.hash_laws.specs.Text.{IsText, joined}
pub use Rattle.hash_words.proofs.PutLemmas.{take-put_at, take-put_first}
pub use Rattle.std.proofs.Common.{Bor, List, [], ap, ap₂, arith, drop, fold, length, length-append, pow_mono, refl, subst, suc, sym, take, zero, ℕ, ◌%◌, ◌*◌, ◌++◌, ◌+◌, ◌-◌, ◌/◌, ◌<◌, ◌^◌, ◌∙◌, ◌∷◌, ◌≡◌, ◌≤◌}
pub use Rattle.std.proofs.lemmas.List.{append-nil, append_assoc, drop_all, take-append-le, take_all}
pub use Rattle.std.proofs.lemmas.List.Elements.{All-append, All-from_get_or, All-take}
pub use Rattle.std.specs.Int.{to_le_bytes, w64}
