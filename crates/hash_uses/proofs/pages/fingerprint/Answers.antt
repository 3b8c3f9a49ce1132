use Rattle.std.proofs.Common.{[], ◌∙◌, ap, sym}
use Rattle.hashers.specs.Spooky.{Position, after}
use Rattle.hash_uses.proofs.pages.fingerprint.Goals as goal

pub returns-in-Ok : goal.returns-in-Ok
returns-in-Ok g c = λ text left.
    c.finish128.ensures.of_text 0 0 text
    (c.in-Ok.ensures.all c.if-hash_stream.true text left ∙ ap (λ (at : Position). after at text) c.fresh-hasher.ensures.state
    ∙ sym (c.position_of_joined_texts.ensures 0 0 [] text))
