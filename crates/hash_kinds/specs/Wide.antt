-- Hashes of 128 bits of a text, each as one number: two words, the first above the second.
use Rattle.std.specs.Prelude.{ℕ, ◌+◌, ◌*◌, ◌^◌, List}
use Rattle.hash_jenkins.specs.Spooky.{spooky}
use Rattle.hash_blocks.specs.Murmur3x128.{murmur3_128}
use Rattle.hash_xxh3.specs.Wide.{xxh3_128_of}

abbrev pub both : ℕ × ℕ → ℕ
both words = words.0 * 2 ^ 64 + words.1

-- of SpookyHash under two seeds of 0, and of MurmurHash3_x64_128 under the seed 0
abbrev pub spooky128 : List ℕ → ℕ
spooky128 text = both (spooky 0 0 text)

abbrev pub murmur3_128_of : List ℕ → ℕ
murmur3_128_of text = both (murmur3_128 0 text)

-- of XXH3 under the seed 0: its high word above the low one
abbrev pub xxh128 : List ℕ → ℕ
xxh128 text = both ((xxh3_128_of 0 text).1, (xxh3_128_of 0 text).0)
