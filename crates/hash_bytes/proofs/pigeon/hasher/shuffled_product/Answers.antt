use Rattle.hash_bytes.proofs.Common.{◌≡◌, ◌*◌, ◌%◌, ◌^◌, ℕ, List, map, refl, ap, ◌∙◌, arith, get_or}
use Rattle.std.specs.List.{range_with_len}
use Rattle.std.proofs.lemmas.List.FromFn.{get_or-map-range_with_len}
use Rattle.hash_rounds.specs.Shuffle.{from_bits, shuffle}
use Rattle.hash_bytes.specs.declared.pigeon.table.TheConstants.{SHUFFLED_PRODUCTS}
use Rattle.hash_bytes.proofs.pigeon.hasher.shuffled_product.Goals as goal

product : ℕ → ℕ
product b = shuffle (b * 173773926194192273 % 2 ^ 64)

-- each entry is the shuffled product of its place
table_is : SHUFFLED_PRODUCTS ≡ map product (range_with_len 0 256)
unfolding product from_bits
table_is = refl

pub returns : goal.returns
unfolding product
returns c =
    let b = c.args.byte in
    let here = get_or-map-range_with_len product 0 256 b b 0 (omega arith) (omega arith) in
    rw c.from.ensures (ap (λ (t : List ℕ). get_or t b 0) table_is ∙ here)
