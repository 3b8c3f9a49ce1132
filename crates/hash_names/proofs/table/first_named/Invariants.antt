use Rattle.std.proofs.Common.{◌≡◌, drop, find}
use Rattle.hash_names.specs.Named.{is_named}
use Rattle.hash_names.proofs.table.first_named.Given as goal

-- the hash is among those that are left
abbrev pub invariant-loop-ported : goal.invariant-loop-ported
invariant-loop-ported l = find (is_named l.name) (drop l.ported-index l.hashes) ≡ find (is_named l.name) l.hashes
