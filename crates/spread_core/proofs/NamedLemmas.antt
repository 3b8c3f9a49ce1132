-- The hashes of keys, one by one.
use Rattle.spread_core.proofs.Common.{◌≡◌, ◌<◌, ℕ, List, [], map, length, get_or, sym, ◌∙◌, arith, ext_get_or, get_or-map, length-map}

-- these are the hashes, where each stands at the place of its key
pub hashed_all : (hash : List ℕ → ℕ) (keys : List (List ℕ)) (hashes : List ℕ) → length hashes ≡ length keys
    → ((k : ℕ) → k < length keys → get_or hashes k 0 ≡ hash (get_or keys k [])) → hashes ≡ map hash keys
hashed_all hash keys hashes len each =
    ext_get_or 0 hashes (map hash keys) (len ∙ sym (length-map keys hash))
    (λ i below.
    let in_keys : i < length keys = omega arith in
    each i in_keys ∙ sym (get_or-map hash keys i [] 0 in_keys))
