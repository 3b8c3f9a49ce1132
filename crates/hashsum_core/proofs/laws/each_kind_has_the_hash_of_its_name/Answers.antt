use Rattle.hashsum_core.proofs.Common.{◌≡◌, ℕ, Some, true, false, refl, name_in, number_named, sum_of, takes_keys, wide_name, wide_of, Sum, Wide}
use Rattle.hash_lines.specs.declared.sums.Sum.TheVariants.{Table, Poly61, SipHash24}
use Rattle.hash_lines.specs.declared.sums.Sum.TheVariants as sum
use Rattle.hash_lines.specs.declared.sums.Wide.TheVariants as wide
use Rattle.hashsum_core.proofs.LawLemmas.{row_is}
use Rattle.hashsum_core.proofs.laws.each_kind_has_the_hash_of_its_name.Goals as goal

wide_is : (it : Wide) → number_named (wide_name it) ≡ Some (wide_of it)
unfolding number_named
wide_is wide.Spooky = refl
wide_is wide.Murmur3 = refl
wide_is wide.Xxh3 = refl

told_is : (it : Sum) (keys : ℕ × ℕ) → takes_keys it ≡ false → number_named (name_in it) ≡ Some (sum_of keys it)
told_is (Table kind) keys none = row_is kind
told_is (sum.Wide it) keys none = wide_is it
told_is Poly61 keys none = let clash : true ≡ false = none in cc
told_is SipHash24 keys none = let clash : true ≡ false = none in cc

pub returns : goal.returns
returns c it keys none = told_is it keys none
