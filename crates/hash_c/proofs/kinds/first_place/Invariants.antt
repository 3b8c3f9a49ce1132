use Rattle.std.proofs.Common.{◌≡◌, drop, find, bytes_eq}
use Rattle.hash_kinds.specs.Named.{name_of}
use Rattle.hash_c.proofs.kinds.first_place.Given as goal

-- the hash is among those that are left
abbrev pub invariant-loop-place : goal.invariant-loop-place
invariant-loop-place l =
    find (λ kind. bytes_eq (name_of kind) l.name) (drop l.place l.kinds) ≡ find (λ kind. bytes_eq (name_of kind) l.name) l.kinds
