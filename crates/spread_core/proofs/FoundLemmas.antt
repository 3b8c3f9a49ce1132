-- What is found of the items of a list, one item after the other.
use Rattle.spread_core.proofs.Common.{ℕ, ◌≡◌, ◌+◌, ◌<◌, ◌++◌, ◌∷◌, [], List, Option, Some, None, ap, ◌∙◌, get_or, length, map, take, append-nil, filter_map, map_more, filter_map-append}

module _ {N X Y : Type 0} (h : X → Option Y) (v : N → X) (xs : List N) (i : ℕ) (d : N) (below : i < length xs) where
  found_more : filter_map h (map v (take (i + 1) xs)) ≡ filter_map h (map v (take i xs)) ++ filter_map h (v (get_or xs i d) ∷ [])
  found_more = ap (filter_map h) (map_more v xs i d below) ∙ filter_map-append h (map v (take i xs)) (v (get_or xs i d) ∷ [])

  pub found_one : (y : Y) → h (v (get_or xs i d)) ≡ Some y
      → filter_map h (map v (take (i + 1) xs)) ≡ filter_map h (map v (take i xs)) ++ y ∷ []
  found_one y is = rw is at found_more

  pub found_none : h (v (get_or xs i d)) ≡ None → filter_map h (map v (take (i + 1) xs)) ≡ filter_map h (map v (take i xs))
  found_none is = (rw is at found_more) ∙ append-nil (filter_map h (map v (take i xs)))
