use Rattle.hash_laws.proofs.ChangedByte.{answers_differ}
use Rattle.hash_laws.proofs.windows.changed_byte.one_changed_byte_shows.Goals as goal

pub returns : goal.returns
returns g c =
    let H = g.H.Piecewise in
    let laws = g.met.H.Piecewise in
    let undo = g.met.H.Undo in
    let steps = g.met.H.ByteStep in
    answers_differ H.in_range H.after H.answer H.hash_of H.fresh laws.fresh_in_range laws.after_in_range
    undo.after_injective steps.byte_injective steps.in_steps undo.answer_injective laws.hash_of_is
