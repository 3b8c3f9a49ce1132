use Rattle.std.proofs.Common.{◌≡◌, ◌∙◌, ap, arith, length, refl, sym, rules}
use Rattle.std.proofs.Math.ListN.{get_or-map}
use Rattle.std.proofs.lemmas.List.{length-map}
use Rattle.std.specs.Hash.{le_bytes}
use Rattle.hash_laws.specs.TextLaws.{IsText-le_bytes, le_bytes-64}
use Rattle.hash_words.proofs.WordLemmas.{le-to_le_bytes-64}
use Rattle.hash_words.specs.Words.{le}
use Rattle.hash_theorems.proofs.ShortLemmas.{eight_bytes_same}
use Rattle.hash_theorems.proofs.xxh3.laws.keys_of_one_width_never_collide.Goals as goal

pub returns-clause-numbers : goal.returns-clause-numbers
unfolding le_bytes
returns-clause-numbers c = λ seed a b a_in b_in same.
    let eight : length (le_bytes 8 a) ≡ 8 = refl in
    let bytes = eight_bytes_same seed (le_bytes 8 a) (le_bytes 8 b) (IsText-le_bytes 8 a) (IsText-le_bytes 8 b) refl (omega (arith, eight))
    (omega (arith, eight)) same in
    sym (ap le (le_bytes-64 a) ∙ le-to_le_bytes-64 a a_in) ∙ ap le bytes ∙ ap le (le_bytes-64 b) ∙ le-to_le_bytes-64 b b_in

pub returns-clause-members : goal.returns-clause-members
returns-clause-members c = search (rules, length-map, get_or-map, eight_bytes_same)
