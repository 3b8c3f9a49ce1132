use Rattle.std.proofs.Common.{[], ◌++◌, ◌∷◌, ◌∙◌, ap, append-nil, rules}
use Rattle.std.proofs.lemmas.List.Concat.{concat_is}
use Rattle.std.specs.Hash.{le_bytes}
use Rattle.hashers.proofs.KeyLemmas.{key_texts}
use Rattle.hash_uses.proofs.keys.hash_of_server.Goals as goal

pub returns : goal.returns
returns g c =
    let key = c.args.key in
    let name = key.name.now in
    c.hash_one_joined.ensures (search (key_texts, rules))
    ∙ ap g.H.Piecewise.hash_of (concat_is (name ∷ (255 ∷ []) ∷ le_bytes 2 key.port ∷ le_bytes 8 key.owner ∷ [])
    ∙ ap (λ last. name ++ 255 ∷ (le_bytes 2 key.port ++ last)) (append-nil (le_bytes 8 key.owner)))
