-- Lists of pieces whose cuts agree.
use Rattle.hash_fx.proofs.Common.{◌≡◌, ℕ, ◌+◌, ◌<◌, List, [], ◌∷◌, ◌++◌, length, map, take, sym, ap, ◌∙◌, arith, ap₂, length-map}
use Rattle.std.proofs.Common.{Bor, get_or, All}
use Rattle.std.proofs.lemmas.List.{map_more, map_push, get_or-map}
use Rattle.std.proofs.lemmas.List.Elements.{All-push}
use Rattle.hash_laws.specs.Text.{IsText, texts}

abbrev pub Pieces : Type 0
Pieces = List (Bor (List ℕ))

-- what a place past the end gives
abbrev pub no_piece : Bor (List ℕ)
no_piece = record { ref_ptr = (0, 0); now = [] }

abbrev pub SameCuts : Pieces → Pieces → Type 0
SameCuts x y = map length (texts x) ≡ map length (texts y)

-- the cuts agree, and all pieces are texts
pub record CutsAgree (x y : Pieces) : Type 0 where
  pub cuts : SameCuts x y
  pub first : All IsText (texts x)
  pub second : All IsText (texts y)

-- as many pieces
pub SameCuts-length : (x y : Pieces) → SameCuts x y → length x ≡ length y
SameCuts-length x y same =
    sym (length-map (texts x) length ∙ length-map x (λ (p : Bor (List ℕ)). p.now)) ∙ ap length same
    ∙ (length-map (texts y) length ∙ length-map y (λ (p : Bor (List ℕ)). p.now))

length-at : (x : Pieces) (i : ℕ) (d : Bor (List ℕ)) → i < length x → get_or (map length (texts x)) i 0 ≡ length (get_or x i d).now
length-at x i d below =
    get_or-map length (texts x) i [] 0 (omega (arith, length-map x (λ (p : Bor (List ℕ)). p.now)))
    ∙ ap length (get_or-map (λ (p : Bor (List ℕ)). p.now) x i d [] below)

-- of the same lengths
pub SameCuts-at : (x y : Pieces) (i : ℕ) (d : Bor (List ℕ)) → SameCuts x y → i < length x
    → length (get_or x i d).now ≡ length (get_or y i d).now
SameCuts-at x y i d same below =
    let also : i < length y = omega (arith, SameCuts-length x y same) in
    sym (length-at x i d below) ∙ ap (λ t. get_or t i 0) same ∙ length-at y i d also

texts_more : (x : Pieces) (i : ℕ) (d : Bor (List ℕ)) → i < length x → texts (take (i + 1) x) ≡ texts (take i x) ++ (get_or x i d).now ∷ []
texts_more x i d below = map_more (λ (p : Bor (List ℕ)). p.now) x i d below

pub CutsAgree-more : (x y : Pieces) (i : ℕ) (d : Bor (List ℕ)) → i < length x → i < length y
    → length (get_or x i d).now ≡ length (get_or y i d).now
    → IsText (get_or x i d).now → IsText (get_or y i d).now → CutsAgree (take i x) (take i y) → CutsAgree (take (i + 1) x) (take (i + 1) y)
CutsAgree-more x y i d in_x in_y same_length x_text y_text before = record {
  cuts = ap (map length) (texts_more x i d in_x) ∙ map_push length (texts (take i x)) (get_or x i d).now
      ∙ ap₂ (λ ls l. ls ++ l ∷ []) before.cuts same_length
      ∙ sym (ap (map length) (texts_more y i d in_y) ∙ map_push length (texts (take i y)) (get_or y i d).now);
  first = rw (texts_more x i d in_x) (All-push IsText (texts (take i x)) (get_or x i d).now before.first x_text);
  second = rw (texts_more y i d in_y) (All-push IsText (texts (take i y)) (get_or y i d).now before.second y_text);
}
