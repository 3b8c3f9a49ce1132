use Rattle.std.proofs.Common.{◌≡◌, ℕ, List, take, unwrap_or, count_by, bytes_eq}
use Rattle.std.specs.HashMap as map
use Rattle.hash_uses.proofs.maps.count_words.Given as goal

abbrev pub invariant-loop-word : goal.invariant-loop-word
invariant-loop-word g l = (word : List ℕ) → unwrap_or (map.get_by (λ k. bytes_eq word k.now) l.counts) 0
    ≡ count_by (λ w. bytes_eq word w.now) (take l.word-index l.words)
