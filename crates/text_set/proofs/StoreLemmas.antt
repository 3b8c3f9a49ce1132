-- Texts that lie one behind the other: the text at a place, and a text more.
use Rattle.text_set.proofs.Common.{ℕ, zero, suc, ◌≤◌, List, [], ◌∷◌, ◌++◌, length, get_or, take, drop, arith, ap, refl, common_steps, Rises, cut, ◌≡◌, ◌-◌, ◌<◌}

pub length_cut : (start : ℕ) (bytes ends : List ℕ) → length (cut start bytes ends) ≡ length ends
length_cut start bytes [] = refl
length_cut start bytes (end ∷ ends) = ap suc (length_cut end bytes ends)

-- the text at a place
pub cut_at : (start : ℕ) (bytes ends : List ℕ) (place : ℕ) → place < length ends → get_or (cut start bytes ends) place []
    ≡ take (get_or ends place 0 - get_or (start ∷ ends) place 0) (drop (get_or (start ∷ ends) place 0) bytes)
cut_at start bytes [] place below = absurd (omega arith)
cut_at start bytes (end ∷ ends) zero below = refl
cut_at start bytes (end ∷ ends) (suc place) below = cut_at end bytes ends place (omega arith)

up_to_last : (start : ℕ) (ends : List ℕ) (last : ℕ) → Rises start ends last → start ≤ last
up_to_last start [] last same = omega arith
up_to_last start (end ∷ ends) last (first, more) = omega (arith, up_to_last end ends last more)

-- a text begins before it ends, within the bytes
pub within : (start : ℕ) (ends : List ℕ) (last place : ℕ) → Rises start ends last → place < length ends
    → (get_or (start ∷ ends) place 0 ≤ get_or ends place 0) × (get_or ends place 0 ≤ last)
within start [] last place rises below = absurd (omega arith)
within start (end ∷ ends) last zero (first, more) below = (first, up_to_last end ends last more)
within start (end ∷ ends) last (suc place) (first, more) below = within end ends last place more (omega arith)

-- further bytes and their end are a text more
pub cut_more : (start : ℕ) (bytes ends text : List ℕ) → Rises start ends (length bytes)
    → cut start (bytes ++ text) (ends ++ length (bytes ++ text) ∷ []) ≡ cut start bytes ends ++ text ∷ []
cut_more start bytes [] text same = grind (arith, common_steps, same)
cut_more start bytes (end ∷ ends) text (first, more) =
    let inside : end ≤ length bytes = up_to_last end ends (length bytes) more in
    grind (arith, common_steps, cut_more end bytes ends text more)

pub rises_more : (start : ℕ) (ends : List ℕ) (last later : ℕ) → Rises start ends last → last ≤ later
    → Rises start (ends ++ later ∷ []) later
rises_more start [] last later same le = (omega arith, refl)
rises_more start (end ∷ ends) last later (first, more) le = (first, rises_more end ends last later more le)
