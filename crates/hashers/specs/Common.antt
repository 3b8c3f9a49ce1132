-- What the contracts of this crate share of std, of the crates below and of its own definitions, passed on from one place.
pub use Rattle.hash_bytes.specs.Fnv.{fnv1a32_from, fnv1a64_from, fnv1a32_of, fnv1a64_of}
pub use Rattle.hash_bytes.specs.Oz.{djb2_from, djb2_of}
pub use Rattle.hash_laws.specs.Text.{IsText}
pub use Rattle.hash_rounds.specs.Sums.{sdbm_from, loselose_from, passthrough_from}
pub use Rattle.std.specs.List.{AllPairs, flat_map}
pub use Rattle.std.specs.Prelude.{ℕ, List, length, sum, [], All, fold, IsTrue}
