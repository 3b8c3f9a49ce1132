-- Where a text in two pieces leads to where it leads whole, so does one in any pieces.
use Rattle.hash_laws.specs.Common.{◌≡◌, List, [], ◌∷◌, ◌++◌, ℕ, fold, sym, ◌∙◌, flat_map, All, All-nil, All-append, All-head, All-tail, IsText}
use Rattle.hash_laws.specs.TextLaws.{IsByte}

module _ {S : Type 0} (is_state : S → Type 0) (after : S → List ℕ → S)
    (after_in_range : (s : S) (piece : List ℕ) → is_state s → IsText piece → is_state (after s piece))
    (after_nothing : (s : S) → is_state s → after s [] ≡ s)
    (after_joined : (s : S) (text more : List ℕ) → is_state s → IsText text → IsText more
    → after s (text ++ more) ≡ after (after s text) more) where
  pub fold-pieces : (s : S) (pieces : List (List ℕ)) → is_state s → All IsText pieces
      → (fold after s pieces ≡ after s (flat_map (λ p. p) pieces)) × IsText (flat_map (λ p. p) pieces)
  fold-pieces s [] known texts = (sym (after_nothing s known), All-nil IsByte)
  fold-pieces s (piece ∷ pieces) known texts =
      let bytes = All-head IsText piece pieces texts in
      let rest = fold-pieces (after s piece) pieces (after_in_range s piece known bytes) (All-tail IsText piece pieces texts) in (
        rest.0 ∙ sym (after_joined s piece (flat_map (λ p. p) pieces) known bytes rest.1),
        All-append IsByte piece
            (flat_map (λ p. p) pieces) bytes rest.1,
      )
