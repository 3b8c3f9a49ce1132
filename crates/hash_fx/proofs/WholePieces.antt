-- The words of pieces of whole words, and of one piece more.
use Rattle.hash_fx.proofs.Common.{◌≡◌, ℕ, ◌+◌, ◌-◌, ◌%◌, ◌<◌, List, [], ◌++◌, length, take, arith, sym, ap, ◌∙◌, length-map, fx32_step, fx64_step, fx32, fx64, words32, words64, recurrence}
use Rattle.std.proofs.Common.{Bor, get_or}
use Rattle.std.proofs.lemmas.List.{get_or-take, get_or-map, length-take-le}
use Rattle.hash_laws.specs.Text.{joined, texts}
use Rattle.hash_laws.specs.RecurrenceLaws.{recurrence-append}
use Rattle.hash_laws.specs.TextLaws.{joined_more}
use Rattle.hash_fx.specs.Pieces.{AreWhole}
use Rattle.std.proofs.lemmas.List.{length-append}
use Rattle.hash_fx.proofs.WholeWords.{words32-append, words64-append}
use Rattle.hash_fx.proofs.CutsLemmas.{Pieces, no_piece}

-- a piece before the last
piece_whole : (n : ℕ) (pieces : Pieces) (i : ℕ) (d : Bor (List ℕ)) → AreWhole n pieces → i + 1 < length pieces
    → length (get_or pieces i d).now % n ≡ 0
piece_whole n pieces i d whole more =
    let within : i < length pieces - 1 = omega arith in
    let size : length (take (length pieces - 1) (texts pieces)) ≡ length pieces - 1 =
    length-take-le (length pieces - 1) (texts pieces) (omega (arith, length-map pieces (λ (p : Bor (List ℕ)). p.now))) in
    let at : get_or (take (length pieces - 1) (texts pieces)) i [] ≡ (get_or pieces i d).now =
    get_or-take (length pieces - 1) (texts pieces) i [] within ∙ get_or-map (λ (p : Bor (List ℕ)). p.now) pieces i d [] (omega arith) in
    rw at at (whole i [] (omega (arith, size)))

-- the state after the pieces before one of them is that after their joined text, which is whole words
pub record IsAt (after : ℕ → List ℕ → ℕ) (n start state i : ℕ) (pieces : Pieces) : Type 0 where
  pub there : state ≡ after start (joined (take i pieces))
  pub whole : i < length pieces → length (joined (take i pieces)) % n ≡ 0

module _ (step : ℕ → ℕ → ℕ) (words : List ℕ → List ℕ) (n : ℕ)
    (joins : (a b : List ℕ) → length a % n ≡ 0 → words (a ++ b) ≡ words a ++ words b)
    (sums : (a b : ℕ) → a % n ≡ 0 → b % n ≡ 0 → (a + b) % n ≡ 0) where
  at_more : (start state next i : ℕ) (pieces : Pieces) → AreWhole n pieces → i < length pieces
      → next ≡ recurrence step state (words (get_or pieces i no_piece).now)
      → IsAt (λ s text. recurrence step s (words text)) n start state i pieces
      → IsAt (λ s text. recurrence step s (words text)) n start next (i + 1) pieces
  at_more start state next i pieces whole below led before =
      let so_far = joined (take i pieces) in
      let piece = (get_or pieces i no_piece).now in
      let more : joined (take (i + 1) pieces) ≡ so_far ++ piece = joined_more (λ piece. piece.now) [] pieces i no_piece below in
      record {
        there = led ∙ ap (λ s. recurrence step s (words piece)) before.there
            ∙ sym (recurrence-append step start (words so_far) (words piece))
            ∙ ap (recurrence step start) (sym (joins so_far piece (before.whole below)))
            ∙ ap (λ t. recurrence step start (words t)) (sym more);
        whole = λ left.
            rw (more, length-append so_far piece) (sums (length so_far) (length piece) (before.whole below)
            (piece_whole n pieces i no_piece whole left));
      }

pub at_more64 : (start state next i : ℕ) (pieces : Pieces) → AreWhole 8 pieces → i < length pieces
    → next ≡ fx64 state (words64 (get_or pieces i no_piece).now)
    → IsAt (λ s text. fx64 s (words64 text)) 8 start state i pieces → IsAt (λ s text. fx64 s (words64 text)) 8 start next (i + 1) pieces
at_more64 = at_more fx64_step words64 8 words64-append (λ a b first second. omega (arith, first, second))

pub at_more32 : (start state next i : ℕ) (pieces : Pieces) → AreWhole 4 pieces → i < length pieces
    → next ≡ fx32 state (words32 (get_or pieces i no_piece).now)
    → IsAt (λ s text. fx32 s (words32 text)) 4 start state i pieces → IsAt (λ s text. fx32 s (words32 text)) 4 start next (i + 1) pieces
at_more32 = at_more fx32_step words32 4 words32-append (λ a b first second. omega (arith, first, second))
