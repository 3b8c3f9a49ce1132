use Rattle.std.proofs.Common.{◌≡◌, Some, refl}
use Rattle.hash_kinds.specs.declared.table.Kind.{Kind}
use Rattle.hash_kinds.specs.declared.table.Kind.TheVariants.{Ported}
use Rattle.hash_names.specs.declared.table.Ported.TheVariants.{Fnv1a32}
use Rattle.hash_kinds.specs.Named.{kind_named, name_of}
use Rattle.hash_kinds.proofs.table.each_hash_is_found.Goals as goal

-- row by row
of_name : (kind : Kind) → kind_named (name_of kind) ≡ Some kind
unfolding kind_named
of_name (Ported Fnv1a32) = refl
of_name kind = refl

pub returns : goal.returns
returns c = of_name
