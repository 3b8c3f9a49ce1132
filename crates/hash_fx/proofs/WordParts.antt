-- A piece's words from its wide words and the rest.
use Rattle.hash_fx.proofs.Common.{◌≡◌, ℕ, ◌*◌, ◌/◌, List, ◌++◌, length, drop, map, fold, refl, sym, ap, ◌∙◌, first_chunks, fold-append, le, pieces, recurrence, recurrence-fold, fx64_step, words32, words64}

pub words32-parts : (piece : List ℕ) (fours : List (List ℕ)) (rest : List ℕ) → fours ≡ first_chunks 4 (length piece / 4) piece
    → rest ≡ drop (length piece / 4 * 4) piece → map le fours ++ rest ≡ words32 piece
unfolding pieces
words32-parts piece fours rest front back = rw (front, back) refl

pub words64-parts : (piece : List ℕ) (eights : List (List ℕ)) (rest : List ℕ) → eights ≡ first_chunks 8 (length piece / 8) piece
    → rest ≡ drop (length piece / 8 * 8) piece → map le eights ++ words32 rest ≡ words64 piece
unfolding pieces
words64-parts piece eights rest front back = rw (front, back) refl

-- the steps over all words are those over the one part, and then over the other
pub steps-parts : (step : ℕ → ℕ → ℕ) (s : ℕ) (first rest words : List ℕ) → first ++ rest ≡ words
    → recurrence step s words ≡ fold step (fold step s first) rest
steps-parts step s first rest words parts =
    recurrence-fold step s words ∙ ap (fold step s) (sym parts) ∙ fold-append step s first rest

-- the words of eight bytes in, and then the others
pub words64_in : (s first end : ℕ) (piece : List ℕ) (eights : List (List ℕ)) (rest : List ℕ)
    → eights ≡ first_chunks 8 (length piece / 8) piece → rest ≡ drop (length piece / 8 * 8) piece
    → first ≡ fold fx64_step s (map le eights) → end ≡ recurrence fx64_step first (words32 rest)
    → end ≡ recurrence fx64_step s (words64 piece)
words64_in s first end piece eights rest front back begun others =
    others ∙ recurrence-fold fx64_step first (words32 rest) ∙ ap (λ t. fold fx64_step t (words32 rest)) begun
    ∙ sym (steps-parts fx64_step s (map le eights) (words32 rest) _ (words64-parts piece eights rest front back))
