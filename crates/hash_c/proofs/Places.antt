-- The place of the first that passes a test.
use Rattle.std.proofs.Common.{◌≡◌, ◌≤◌, ◌<◌, ◌+◌, ℕ, Bool, true, cond, List, drop, length, get_or, slice_get, Some, arith, ap, sym, ◌∙◌, find}
use Rattle.std.proofs.lemmas.List.{at_drop_all, at_drop_more}
use Rattle.std.proofs.lemmas.Option.{slice_get-get_or, slice_get_past}

-- the first from a place on, where none before it passes
pub found_here : {X : Type 0} (p : X → Bool) (xs : List X) (i : ℕ) (d : X) → i < length xs → p (get_or xs i d) ≡ true
    → find p (drop i xs) ≡ find p xs → slice_get xs i ≡ find p xs
found_here p xs i d within passes left =
    slice_get-get_or xs i d within
    ∙ sym (at_drop_more (find p) xs i d within ∙ ap (λ b. cond b (Some (get_or xs i d)) (find p (drop (i + 1) xs))) passes) ∙ left

-- none passes
pub found_nowhere : {X : Type 0} (p : X → Bool) (xs : List X) (i : ℕ) → length xs ≤ i → find p (drop i xs) ≡ find p xs
    → slice_get xs (length xs) ≡ find p xs
found_nowhere p xs i past left = slice_get_past xs (length xs) (omega arith) ∙ sym (at_drop_all (find p) xs i past) ∙ left
