use Rattle.hash_ring.proofs.Lemmas.{sym, subst, nodes_of, entries_are, absent, inserted, removed, moves_to, moves_from, rules}
use Rattle.hash_ring.specs.Ring.{MovesOnlyTo}
use Rattle.hash_ring.specs.Points.{IsGapAt}
use Rattle.hash_ring.proofs.points.only_one_nodes_keys_move.Goals as goal

pub returns-clause-came : goal.returns-clause-came
returns-clause-came c = λ hash nodes points name weight index ring gap.
    let m = nodes_of nodes in
    let more = inserted nodes ring.named name weight index gap in
    let new = absent m name index (subst (λ es. IsGapAt es name index) (sym (entries_are nodes ring.named)) gap) in
    (more, subst (λ n. MovesOnlyTo hash m n name) (sym more) (moves_to hash m name weight new))

pub returns-clause-went : goal.returns-clause-went
returns-clause-went c = λ hash nodes points gone ring below.
    search (rules, removed, moves_from)
