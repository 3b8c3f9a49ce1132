use Rattle.hashsum_core.proofs.Common.{◌≢◌, ℕ, List, lit<, mod-lt, refl, codes, murmur3_128_of, Murmur3At32, Xxh32, number_named, kind_named, arith, nat_tests, common_steps}
use Rattle.hash_laws.specs.DifferWithin.{DifferInOneBlock}
use Rattle.hash_blocks.specs.Murmur3x128.{murmur3_128}
use Rattle.hashsum_core.proofs.KeyLemmas.{parts_are}
use Rattle.hashsum_core.proofs.LawLemmas.{kind_never_passes, named_never_passes}
use Rattle.hashsum_core.proofs.laws.a_changed_block_never_passes.Goals as goal
use Rattle.hash_theorems.specs.Xxh32Words.{DifferInOneWord}

pub returns-clause-murmur3_32 : goal.returns-clause-murmur3_32
returns-clause-murmur3_32 g c =
    kind_never_passes g.F.Folder.opens Murmur3At32 (DifferInOneBlock 4) (λ x y is_text also differ. c.one_changed_word_shows_in_murmur3_32.ensures 0 x y (lit< tt) is_text also differ)

pub returns-clause-xxh32 : goal.returns-clause-xxh32
returns-clause-xxh32 g c =
    kind_never_passes g.F.Folder.opens Xxh32 DifferInOneWord (λ x y is_text also differ. c.one_changed_word_shows_in_xxh32.ensures 0 x y (lit< tt) is_text also differ)

-- different words are different numbers
words_show : (x y : List ℕ) → murmur3_128 0 x ≢ murmur3_128 0 y → murmur3_128_of x ≢ murmur3_128_of y
words_show x y differ same = grind (arith, nat_tests, common_steps, parts_are, mod-lt)

pub returns-clause-murmur3_128 : goal.returns-clause-murmur3_128
unfolding number_named kind_named
returns-clause-murmur3_128 g c =
    named_never_passes g.F.Folder.opens (codes "murmur3_128") murmur3_128_of (DifferInOneBlock 16) refl (λ x y is_text also differ. words_show x y (c.one_changed_block_shows_in_murmur3_128.ensures 0 x y (lit< tt) is_text also differ))
