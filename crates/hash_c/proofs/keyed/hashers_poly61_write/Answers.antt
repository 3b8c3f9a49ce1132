use Rattle.hash_c.proofs.Common.{◌∙◌, ◌∷◌, [], ap, stands_after, stands_in_range}
use Rattle.hash_keyed.specs.Poly61State.{after}
use Rattle.hash_c.proofs.keyed.hashers_poly61_write.Goals as goal

pub returns-in-Some-clause-of_text : goal.returns-in-Some-clause-of_text
returns-in-Some-clause-of_text c = λ key text stands.
    stands_after _ _ (key ∷ []) text c.args.bytes.now c.feed.ensures.text
    (c.place.ensures.there ∙ c.feed.ensures.state ∙ ap (λ at. after at c.args.bytes.now) c.in-Some.ensures.0) stands

pub returns-in_default-clause-of_text : goal.returns-in_default-clause-of_text
returns-in_default-clause-of_text c = λ key text stands. absurd (c.in_default.ensures (stands_in_range _ (key ∷ []) text stands))
