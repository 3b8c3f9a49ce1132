-- What is answered after a text.
use Rattle.hash_keyed.proofs.Common.{ℕ, ◌≡◌, List, sym, ap, ◌∙◌, Position, after, as_word, poly61, poly_end, start_at, poly61-is}

pub answer_of_text : (at : Position) (h : ℕ) → h ≡ as_word (poly_end at) → (key : ℕ) (text : List ℕ) → at ≡ after (start_at key) text
    → h ≡ poly61 key text
answer_of_text at h value key text there = value ∙ ap (λ (a : Position). as_word (poly_end a)) there ∙ sym (poly61-is key text)
