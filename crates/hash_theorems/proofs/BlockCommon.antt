-- What the proofs of this crate share of std, of the crates below and of its own definitions, passed on from one place.
pub use Rattle.std.proofs.Common.{◌≡◌, ◌≢◌, ℕ, ◌+◌, ◌*◌, ◌/◌, ◌%◌, ◌<◌, ◌≤◌, List, ◌++◌, length, take, drop, All, refl, sym, ap, ◌∙◌, arith, length-append, length-drop, ⊎_elim, ap₂, drop-drop, ◌^◌, [], ◌∷◌, slice_index, fold, zero, suc, lit<, lit≤, ◌-◌, add-zero, zero-add, nat_lt, false, inl, inr, drop_of_length-le, take-add, reverse, rules}
pub use Rattle.std.proofs.Math.Nat.{mul-add-div_right, mod-mod, add-mod-mod}
pub use Rattle.std.proofs.lemmas.Bool.{cases_eq, cases_lt, OnTrue_from, OnTrue_at}
pub use Rattle.std.proofs.lemmas.List.Elements.{All-take, All-drop}
pub use Rattle.std.proofs.lemmas.Nat.{mod_below, div-mul-add, pow_pos}
pub use Rattle.std.specs.Iterator.Adapters.{rev_source}
pub use Rattle.std.specs.Simd.{first_chunks}
pub use Rattle.std.specs.Slice.Iter.{iter_rest}
unfoldable pub use Rattle.hash_blocks.specs.Blocks.{blocks, tail}
pub use Rattle.hash_blocks.specs.BlocksLaws.{blocks-append, blocks_one, tail-append, tail-lt, blocks_seen, blocks_on, blocks_short, tail_on, tail_short}
pub use Rattle.hash_laws.specs.TextLaws.{IsByte, IsText-from_slice}
pub use Rattle.hash_laws.specs.Text.{IsText}
pub use Rattle.hash_blocks.specs.Murmur3.{murmur3_32}
pub use Rattle.hash_blocks.specs.Murmur3x128.{murmur3_128}
pub use Rattle.hash_laws.specs.DifferWithin.{IsFirstDifference, DifferInOneBlock}
pub use Rattle.hash_words.proofs.ByteBlocks.{of_eight_bytes, of_four_bytes}
pub use Rattle.hash_words.proofs.PieceLemmas.{first_chunks-pieces, part-same, rest-same, texts-same, length-first_chunks}
pub use Rattle.hash_words.proofs.UndoLemmas.{folded, told, ◌▷◌, likewise, turned_round, added, added_onto, rotated, multiplied, shifted, shifted_less, xored, xored_onto, found, found_alone}
pub use Rattle.hash_words.specs.Pieces.{le_words}
unfoldable pub use Rattle.hash_words.specs.Pieces.{pieces}
pub use Rattle.hash_words.specs.Undoes.{Undoes, UndoesWords, IsWord}
pub use Rattle.hash_words.specs.Words.{le, rotl, add, sub}
pub use Rattle.hash_blocks.specs.Xxh32.{q1, q2, q3, q4, q5, xxh32, product, fours_in}
unfoldable pub use Rattle.hash_blocks.specs.Xxh32.{converged, words_of, round, start, after_block, four_in, byte_in, rest_in, last_mix}
pub use Rattle.hash_blocks.specs.Xxh64.{p1, p2, p3, p4, p5, eights_in, xxh64}
unfoldable pub use Rattle.hash_blocks.specs.Xxh64.{eight_in}
pub use Rattle.hash_theorems.specs.BlockFacts.{BlockFacts, IsBlock, IsLeft}
unfoldable pub use Rattle.hash_theorems.specs.BlockFacts.{blocks_before}
pub use Rattle.hash_theorems.specs.Murmur3BackLaws.{murmur3_32_facts}
pub use Rattle.hash_theorems.specs.Murmur3x128Laws.{murmur3_128_facts}
pub use Rattle.hash_theorems.specs.Xxh32Back.{lane_back, turn_of, un_q1, un_q2, un_q3, un_q4, rest_out, begun}
unfoldable pub use Rattle.hash_theorems.specs.Xxh32Back.{four_between, lane_for, unturned, word_between, four_out, byte_out, lane_out, last_unmix}
pub use Rattle.hash_theorems.specs.Xxh64Back.{eight_between, eight_out, un_p1, un_p2, un_p3}
unfoldable pub use Rattle.hash_theorems.specs.Xxh64Back.{unround, unspun}
pub use Rattle.std.proofs.lemmas.Grind.{common_steps}
pub use Rattle.std.proofs.lemmas.Bool.Decides.{nat_tests}
