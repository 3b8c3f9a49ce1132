-- What the contracts of this crate share of std, of the crates below and of its own definitions, passed on from one place.
pub use Rattle.hash_theorems.specs.BlockFacts.{BlockFacts, blocks_before}
pub use Rattle.hash_blocks.specs.Blocks.{tail, blocks}
pub use Rattle.hash_laws.specs.Exactly.{ExactlyTexts}
pub use Rattle.hash_laws.specs.Text.{IsText}
pub use Rattle.hash_laws.specs.DifferWithin.{DifferInOneBlock}
pub use Rattle.hash_words.specs.Words.{le}
pub use Rattle.hash_blocks.specs.Xxh32.{fours_in, words_of, xxh32}
pub use Rattle.std.specs.Bool.{OnTrue}
pub use Rattle.std.specs.Prelude.{ℕ, List, length, IsTrue, fold, reverse}
