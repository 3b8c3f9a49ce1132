use Rattle.hash_ring.proofs.Lemmas.{sym, ◌∙◌, len_of}
use Rattle.std.specs.FinMap as fin
use Rattle.hash_ring.proofs.Ring.len.Goals as goal

pub returns : goal.returns
returns g c =
    let nodes = c.self.inside.nodes in
    c.len.ensures ∙ nodes.ok.0 ∙ len_of nodes.items _ c.self.invariant.named c.self.view_is ∙ sym (fin.len-entries _)
