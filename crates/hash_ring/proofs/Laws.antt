-- What moves where a node comes or goes.
use Rattle.hash_ring.proofs.Common.{ℕ, ◌≡◌, List, None, Some, subst, arith, alike, get_insert, get_remove, removal_undoes_insert, IsOwner, MovesOnlyFrom, MovesOnlyTo, Nodes}
use Rattle.std.specs.FinMap as fin
use Rattle.hash_ring.proofs.Names.{name_tests}
use Rattle.hash_ring.proofs.Owners.{one_owner, stays}

pub moves_from : (hash : List ℕ → ℕ) (nodes : Nodes) (gone : List ℕ) → MovesOnlyFrom hash nodes (fin.remove nodes gone) gone
moves_from hash nodes gone = λ at a b before after ne.
    one_owner hash (fin.remove nodes gone) at b a after (stays hash nodes at gone a before ne)

pub moves_to : (hash : List ℕ → ℕ) (nodes : Nodes) (come : List ℕ) (w : ℕ) → fin.get nodes come ≡ None
    → MovesOnlyTo hash nodes (fin.insert nodes come w) come
moves_to hash nodes come w none = λ at a b before after ne.
    let back : IsOwner hash nodes at b
    = subst (λ m. IsOwner hash m at b) (removal_undoes_insert nodes come w none)
    (stays hash (fin.insert nodes come w) at come b after ne) in
    one_owner hash nodes at b a back before

pub adding_back : (nodes : Nodes) (k : List ℕ) (w : ℕ) → fin.get nodes k ≡ Some w → fin.insert (fin.remove nodes k) k w ≡ nodes
adding_back nodes k w there =
    alike _ _ (λ q. grind (arith, name_tests, get_insert (fin.remove nodes k) k q w, get_remove nodes k q, there))
