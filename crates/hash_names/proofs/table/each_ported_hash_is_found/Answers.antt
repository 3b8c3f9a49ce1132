use Rattle.std.proofs.Common.{◌≡◌, Some, refl}
use Rattle.hash_names.specs.declared.table.Ported.{Ported}
use Rattle.hash_names.specs.declared.table.Ported.TheVariants.{Fnv1a32}
use Rattle.hash_names.specs.Named.{ported_named, row_of}
use Rattle.hash_names.proofs.table.each_ported_hash_is_found.Goals as goal

-- row by row
found : (ported : Ported) → ported_named (row_of ported).name ≡ Some ported
unfolding ported_named
found Fnv1a32 = refl
found ported = refl

pub returns : goal.returns
returns c = found
