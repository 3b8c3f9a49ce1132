-- Two hashers at two keys keep the laws of one.
use Rattle.std.proofs.Common.{ℕ, ◌≡◌, ◌<◌, List, [], ◌∷◌, ◌++◌, refl, sym, ap, ap₂, ◌∙◌}
use Rattle.hashers.specs.Text.{IsText}
use Rattle.hash_keyed.specs.Poly61.{prime61}
use Rattle.hash_keyed.specs.Poly61State.{Position, start_at, as_word, poly_end, poly61_from}
use Rattle.hash_keyed.specs.Poly61Pair.{IsPair, PairStandsAt, after_both}
use Rattle.hash_keyed.specs.Poly61Laws.{IsPosition-start, IsPosition-after, after-append, answer_where_stands, stands_after, stands_at_key}

pub IsPair-start : (first second : ℕ) → first < prime61 → second < prime61 → IsPair (start_at first, start_at second)
IsPair-start first second first_in second_in = (IsPosition-start first first_in, IsPosition-start second second_in)

pub IsPair-after : (at : Position × Position) (text : List ℕ) → IsPair at → IsText text → IsPair (after_both at text)
IsPair-after at text is bytes = (IsPosition-after at.0 text is.0 bytes, IsPosition-after at.1 text is.1 bytes)

pub after_both-append : (at : Position × Position) (text more : List ℕ) → IsPair at → IsText text → IsText more
    → after_both at (text ++ more) ≡ after_both (after_both at text) more
after_both-append at text more is one two =
    ap₂ (λ (p q : Position). (p, q)) (after-append at.0 text more is.0 one two) (after-append at.1 text more is.1 one two)

pub pair_at_keys : (at : Position × Position) (first second : ℕ) → first < prime61 → second < prime61
    → at ≡ (start_at first, start_at second) → PairStandsAt at (first ∷ second ∷ []) []
pair_at_keys at first second first_in second_in there = (
  first,
  second,
  refl,
  stands_at_key at.0 first first_in (ap (λ (p : Position × Position). p.0) there),
  stands_at_key at.1 second second_in (ap (λ (p : Position × Position). p.1) there),
)

pub pair_stands_after : (at to : Position × Position) (from text piece : List ℕ) → IsText piece → to ≡ after_both at piece
    → PairStandsAt at from text → PairStandsAt to from (text ++ piece)
pair_stands_after at to from text piece bytes led (first, second, are, one, two) = (
  first,
  second,
  are,
  stands_after at.0 to.0 (first ∷ []) text piece bytes (ap (λ (p : Position × Position). p.0) led) one,
  stands_after at.1 to.1 (second ∷ []) text piece bytes (ap (λ (p : Position × Position). p.1) led) two,
)

pub pair_answers : (at : Position × Position) (from text : List ℕ) → PairStandsAt at from text
    → as_word (poly_end at.0) ≡ poly61_from from text
pair_answers at from text (first, second, are, one, two) =
    answer_where_stands at.0 (first ∷ []) text one ∙ ap (λ (keys : List ℕ). poly61_from keys text) (sym are)
