use Rattle.hashsum_core.proofs.Common.{ℕ, ◌+◌, ◌/◌, ◌^◌, ◌<◌, List, length, fold, lit<, range_with_len, mod_below, xor_lt, lookup3_from, lookup3-AreTwoWords, bits_of, hash_of, read_of, Kind, Ported, Crc32, Crc32c, Fnv1At32, Fnv1At64, Djb2Add, Joaat, Elf, Xxh32, Xxh64, Murmur3At32, Murmur3, SipHash13, SipHash24, Xxh3, Fnv1a32, Fnv1a64, Djb2, Sdbm, LoseLose, Bricolage, Oaat, Lookup3, Spooky, SpookyV1, PassThrough, FxHash, FxHash32, FxHash64, Null, IsText, murmur3_below, spooky_below, spooky_v1_below, xxh3_below}
use Rattle.hash_bytes.specs.Fnv.{fnv1a32_basis, fnv1a64_basis}
use Rattle.hash_laws.specs.Reading.{cut}
use Rattle.hash_more.specs.Crc32.{all_ones}
use Rattle.hash_more.specs.Joaat.{joaat_from}
use Rattle.hash_more.specs.JoaatLaws.{joaat_answer_below}
use Rattle.hash_rounds.specs.Sums.{passthrough_from, sdbm_from}
use Rattle.hashsum_core.proofs.FitLemmas.{lookup3_below, lookup3_pieces, murmur3_mix, siphash_below, xxh32_mix, xxh64_mix}
use Rattle.hashsum_core.proofs.laws.each_hash_fits.Goals as goal

pub returns-clause-whole : goal.returns-clause-whole
unfolding sdbm_from passthrough_from
returns-clause-whole c = fits
  where
    fits : (kind : Kind) (text : List ℕ) → IsText text → hash_of kind text < 2 ^ bits_of kind
    fits (Ported Fnv1a32) text is = c.text_stays_in_range.ensures fnv1a32_basis text (lit< tt) is
    fits (Ported Fnv1a64) text is = c.text_stays_in_range-2.ensures fnv1a64_basis text (lit< tt) is
    fits (Ported Djb2) text is = c.text_stays_in_range-3.ensures 5381 text (lit< tt) is
    fits (Ported Sdbm) text is = mod_below _ (2 ^ 32) (lit< tt)
    fits (Ported LoseLose) text is = mod_below _ (2 ^ 64) (lit< tt)
    fits (Ported Bricolage) text is = c.text_stays_in_range-4.ensures 0 text (lit< tt) is
    fits (Ported Oaat) text is = mod_below _ (2 ^ 64) (lit< tt)
    fits (Ported Lookup3) text is = lookup3_below _ (lookup3-AreTwoWords (0, 0) text (lit< tt, lit< tt) is)
    fits (Ported Spooky) text is = (spooky_below 0 0 text (lit< tt) (lit< tt)).0
    fits (Ported SpookyV1) text is = (spooky_v1_below 0 0 text (lit< tt) (lit< tt)).0
    fits (Ported PassThrough) text is = mod_below _ (2 ^ 64) (lit< tt)
    fits (Ported FxHash) text is = c.text_stays_in_range-5.ensures 0 text (lit< tt) is
    fits (Ported FxHash32) text is = c.text_stays_in_range-6.ensures 0 text (lit< tt) is
    fits (Ported FxHash64) text is = c.text_stays_in_range-5.ensures 0 text (lit< tt) is
    fits Crc32 text is = xor_lt 32 _ all_ones (c.text_stays_in_range-7.ensures all_ones text (lit< tt) is) (lit< tt)
    fits Crc32c text is = xor_lt 32 _ all_ones (c.text_stays_in_range-8.ensures all_ones text (lit< tt) is) (lit< tt)
    fits Fnv1At32 text is = c.text_stays_in_range-9.ensures fnv1a32_basis text (lit< tt) is
    fits Fnv1At64 text is = c.text_stays_in_range-10.ensures fnv1a64_basis text (lit< tt) is
    fits Djb2Add text is = c.text_stays_in_range-11.ensures 5381 text (lit< tt) is
    fits Joaat text is = joaat_answer_below (joaat_from 0 text)
    fits Elf text is = c.text_stays_in_range-12.ensures 0 text (lit< tt) is
    fits (Ported Null) text is = lit< tt
    fits Xxh32 text is = xxh32_mix _
    fits Xxh64 text is = xxh64_mix _
    fits Murmur3At32 text is = murmur3_mix _
    fits Murmur3 text is = (murmur3_below 0 text).0
    fits SipHash13 text is = siphash_below 1 3 0 0 text (lit< tt) (lit< tt) is
    fits SipHash24 text is = siphash_below 2 4 0 0 text (lit< tt) (lit< tt) is
    fits Xxh3 text is = xxh3_below 0 text

pub returns-clause-read : goal.returns-clause-read
returns-clause-read c = fits
  where
    fits : (kind : Kind) (text : List ℕ) → IsText text → read_of kind text < 2 ^ bits_of kind
    fits (Ported Lookup3) text is =
        lookup3_below (fold lookup3_from (0, 0) (cut 4096 text))
        (lookup3_pieces 4096 text (range_with_len 0 ((length text + 4095) / 4096)) (0, 0) (lit< tt, lit< tt) is)
    fits kind text is = returns-clause-whole c kind text is
