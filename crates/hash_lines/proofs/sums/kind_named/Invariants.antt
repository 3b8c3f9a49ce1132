use Rattle.hash_lines.proofs.Common.{◌≡◌, drop, is_named, name_in, find}
use Rattle.hash_lines.proofs.sums.kind_named.Given as goal

-- the kind is among those that are left
abbrev pub invariant-loop-kind : goal.invariant-loop-kind
invariant-loop-kind l =
    find (λ kind. is_named l.name (name_in kind)) (drop l.kind-index l.kinds) ≡ find (λ kind. is_named l.name (name_in kind)) l.kinds
