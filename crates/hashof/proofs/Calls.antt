-- The arguments of a call, taken one after the other.
use Rattle.std.proofs.Common.{◌≡◌, ◌∙◌, ap, refl, List, [], ◌∷◌, Option, Some, None, length, arith}
use Rattle.std.specs.Vec.Iter.{into_iter_items, into_iter_len, into_iter_steps}
use Rattle.std.specs.declared.vec.IntoIter.{IntoIter}

nothing_left : {X : Type 0} (xs : List X) → length xs ≡ 0 → xs ≡ []
nothing_left [] e = refl
nothing_left (x ∷ xs) e = absurd (omega arith)

-- something or nothing, an item, and then none more
pub two_items : {X Z : Type 0} (s t u v : IntoIter X Z) (first : Option X) (second : X) → into_iter_steps s first t
    → into_iter_steps t (Some second) u
    → into_iter_steps u None v → length (into_iter_items u) ≡ into_iter_len u → (own : X) × (into_iter_items s ≡ own ∷ second ∷ [])
two_items s t u v None second none one end whole = absurd (omega (arith, none.1, one.1))
two_items s t u v (Some own) second some one end whole =
    (own, some.0 ∙ ap (λ xs. own ∷ xs) (one.0 ∙ ap (λ xs. second ∷ xs) (nothing_left (into_iter_items u) (whole ∙ end.0))))
