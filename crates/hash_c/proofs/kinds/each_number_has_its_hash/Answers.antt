use Rattle.hash_c.proofs.Common.{◌≡◌, Some, refl}
use Rattle.hash_c.specs.Kinds.{kind_at, number_of}
use Rattle.hash_kinds.specs.declared.table.Kind.{Kind}
use Rattle.hash_kinds.specs.declared.table.Kind.TheVariants.{Ported}
use Rattle.hash_names.specs.declared.table.Ported.TheVariants.{Fnv1a32}
use Rattle.hash_c.proofs.kinds.each_number_has_its_hash.Goals as goal

-- row by row
at_number : (kind : Kind) → kind_at (number_of kind) ≡ Some kind
unfolding kind_at
at_number (Ported Fnv1a32) = refl
at_number kind = refl

pub returns : goal.returns
returns c = at_number
