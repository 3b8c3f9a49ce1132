-- The hashes that a line can tell: of the table, of 128 bits, and under keys.
use Rattle.std.specs.Prelude.{ℕ, Bool, true, false, ◌+◌, ◌*◌, ◌%◌, ◌^◌, List, Option, Some, None, [], ◌∷◌, if◌then◌else◌, map, take, nat_lt, codes}
use Rattle.std.specs.Char.{to_ascii_lowercase}
use Rattle.std.specs.List.{find}
use Rattle.std.specs.Str.{bytes_eq}
use Rattle.hash_keyed.specs.Poly61.{prime61}
use Rattle.hash_keyed.specs.Poly61State.{poly61}
use Rattle.hash_lines.specs.declared.line.Width.{Width}
use Rattle.hash_lines.specs.declared.line.Width.TheVariants.{Eight, Sixteen, ThirtyTwo}
use Rattle.hash_kinds.specs.Named.{bits_of, name_of, named, read_of}
use Rattle.hash_kinds.specs.Wide.{murmur3_128_of, spooky128, xxh128}
use Rattle.hash_lines.specs.declared.sums.Sum.{Sum}
use Rattle.hash_blocks.specs.SipHash.{siphash}
use Rattle.hash_lines.specs.declared.sums.Sum.TheVariants.{Table, Poly61, SipHash24}
use Rattle.hash_lines.specs.declared.sums.Sum.TheVariants as sum
use Rattle.hash_lines.specs.declared.sums.TheConstants.{SUMS, UNKEYED}
use Rattle.hash_lines.specs.declared.sums.Wide.{Wide}
use Rattle.hash_lines.specs.declared.sums.Wide.TheVariants as wide

-- how many digits so many bits have
abbrev pub width_of : ℕ → Width
width_of bits = if nat_lt bits 33 then Eight else Sixteen

abbrev pub wide_name : Wide → List ℕ
wide_name wide.Spooky = codes "spooky128"
wide_name wide.Murmur3 = codes "murmur3_128"
wide_name wide.Xxh3 = codes "xxh128"

abbrev pub name_in : Sum → List ℕ
name_in (Table kind) = name_of kind
name_in (sum.Wide wide) = wide_name wide
name_in Poly61 = codes "poly61"
name_in SipHash24 = codes "siphash24"

abbrev pub width_in : Sum → Width
width_in (Table kind) = width_of (bits_of kind)
width_in SipHash24 = Sixteen
width_in sum = ThirtyTwo

-- what a hash of 128 bits makes of a text
abbrev pub wide_of : Wide → List ℕ → ℕ
wide_of wide.Spooky = spooky128
wide_of wide.Murmur3 = murmur3_128_of
wide_of wide.Xxh3 = xxh128

-- the hash by the polynomial at two keys, the first above the second
abbrev pub poly61_at_both : (keys : ℕ × ℕ) → List ℕ → ℕ
poly61_at_both keys text = poly61 (keys.0 % prime61) text * 2 ^ 64 + poly61 (keys.1 % prime61) text

-- SipHash-2-4 under a key of two words
abbrev pub siphash24_at : (keys : ℕ × ℕ) → List ℕ → ℕ
siphash24_at keys = siphash 2 4 keys.0 keys.1

-- what a hash makes of a text under these keys
abbrev pub sum_of : (keys : ℕ × ℕ) → Sum → List ℕ → ℕ
sum_of keys (Table kind) = read_of kind
sum_of keys (sum.Wide wide) = wide_of wide
sum_of keys Poly61 = poly61_at_both keys
sum_of keys SipHash24 = siphash24_at keys

-- the same without keys
abbrev pub sum_by : Sum → List ℕ → ℕ
sum_by = sum_of (0, 0)

abbrev pub takes_keys : Sum → Bool
takes_keys Poly61 = true
takes_keys SipHash24 = true
takes_keys sum = false

-- the hashes that a line can tell, the default first: those that take keys stand last, and are told if there are keys
unfoldable pub kinds : (keyed : Bool) → List Sum
kinds keyed = if keyed then SUMS else take UNKEYED SUMS

-- whether a name is this one, in letters of either case
abbrev pub is_named : (word name : List ℕ) → Bool
is_named word name = bytes_eq (map to_ascii_lowercase name) (map to_ascii_lowercase word)

-- the kind of that name, or the first
abbrev pub kind_of : List Sum → Option (List ℕ) → Option Sum
kind_of [] None = None
kind_of (kind ∷ more) None = Some kind
kind_of kinds (Some name) = find (λ kind. is_named name (name_in kind)) kinds

-- the hash of that name, if there is one that takes no keys; siphash24 is here that under the key 0, which no line tells
unfoldable pub number_named : List ℕ → Option (List ℕ → ℕ)
number_named name =
    if bytes_eq name (codes "spooky128") then Some spooky128
    else if bytes_eq name (codes "murmur3_128") then Some murmur3_128_of
    else if bytes_eq name (codes "xxh128") then Some xxh128
    else named name
