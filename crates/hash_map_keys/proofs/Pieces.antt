-- The hash of a key of a map is that of its bytes, however they are split.
use Rattle.std.proofs.lemmas.Grind.{common_steps}
use Rattle.std.proofs.lemmas.Bool.Decides.{nat_tests}
use Rattle.hash_map_keys.proofs.Common.{ℕ, Bor, List, MapHasher, MapKeys, [], after_write, answer_of, ap, append-nil, append_assoc, arith, concat, fold, fresh_at, map_hash, prime61, sym, take_all, ◌%◌, ◌++◌, ◌∙◌, ◌∷◌, ◌≡◌}
use Rattle.hash_map_keys.proofs.Dots.{key_dot, word_is}
use Rattle.hash_map_keys.proofs.Shares.{nothing_more, two_writes}

at_once : (h : MapHasher) (bytes : List ℕ) (pieces : List (List ℕ)) → fold after_write (after_write h bytes) pieces ≡ after_write h (bytes ++ concat pieces)
at_once h bytes [] = ap (after_write h) (sym (append-nil bytes))
at_once h bytes (piece ∷ pieces) =
    ap (λ g. fold after_write g pieces) (two_writes h bytes piece) ∙ at_once h (bytes ++ piece) pieces
    ∙ ap (after_write h) (append_assoc bytes piece (concat pieces))

module _ (keys : Bor MapKeys) where
  abbrev t : List ℕ
  t = keys.now.multipliers

  abbrev key : ℕ
  key = keys.now.text_key

  pub of_bytes : (bytes : List ℕ) → answer_of (after_write (fresh_at keys) bytes) ≡ map_hash t keys.now.addend (key % prime61) bytes
  of_bytes bytes = grind (arith, nat_tests, common_steps, word_is, key_dot)

  none : answer_of (fresh_at keys) ≡ answer_of (after_write (fresh_at keys) [])
  none = grind (arith, nat_tests, common_steps, take_all, nothing_more)

  pub of_pieces : (pieces : List (List ℕ)) → answer_of (fold after_write (fresh_at keys) pieces)
      ≡ map_hash t keys.now.addend (key % prime61) (concat pieces)
  of_pieces [] = none ∙ of_bytes []
  of_pieces (piece ∷ pieces) = ap answer_of (at_once (fresh_at keys) piece pieces) ∙ of_bytes (piece ++ concat pieces)
