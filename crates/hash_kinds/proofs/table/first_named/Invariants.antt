use Rattle.std.proofs.Common.{◌≡◌, drop, find, bytes_eq}
use Rattle.hash_kinds.specs.Named.{name_of}
use Rattle.hash_kinds.proofs.table.first_named.Given as goal

-- the hash is among those that are left
abbrev pub invariant-loop-kind : goal.invariant-loop-kind
invariant-loop-kind l =
    find (λ kind. bytes_eq (name_of kind) l.name) (drop l.kind-index l.kinds) ≡ find (λ kind. bytes_eq (name_of kind) l.name) l.kinds
