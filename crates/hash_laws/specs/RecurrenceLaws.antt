-- Recurrences by the last byte, from the front too.
use Rattle.std.specs.Prelude.{◌≡◌, ◌+◌, ◌*◌, ◌/◌, ◌%◌, ◌<◌, ◌≤◌, ◌∷◌, ◌++◌}
use Rattle.hash_laws.specs.Common.{ℕ, zero, suc, arith, List, [], length, take, drop, get_or, fold, refl, ap, sym, ◌∙◌, flat_map, reverse-append, take_more, take-append-drop, length-drop, nil_from_length}
use Rattle.std.proofs.lemmas.List.{append-nil, append_assoc, take_all}
use Rattle.std.specs.Simd.{first_chunks}
use Rattle.hash_laws.specs.Recurrence.{from_last, recurrence}

module _ {S : Type 0} (step : S → ℕ → S) where
  pub recurrence-nil : (s : S) → recurrence step s [] ≡ s
  unfolding recurrence
  recurrence-nil s = refl

  -- one more byte at the end
  pub recurrence-push : (s : S) (text : List ℕ) (byte : ℕ) → recurrence step s (text ++ byte ∷ []) ≡ step (recurrence step s text) byte
  unfolding recurrence
  recurrence-push s text byte = ap (from_last step s) (reverse-append text (byte ∷ []))

  -- the bytes of `more` one after another
  by_front : (s : S) (text more : List ℕ) → recurrence step s (text ++ more) ≡ fold step (recurrence step s text) more
  by_front s text [] = ap (recurrence step s) (append-nil text)
  by_front s text (byte ∷ more) =
      ap (recurrence step s) (sym (append_assoc text (byte ∷ []) more)) ∙ by_front s (text ++ byte ∷ []) more
      ∙ ap (λ t. fold step t more) (recurrence-push s text byte)

  pub recurrence-fold : (s : S) (text : List ℕ) → recurrence step s text ≡ fold step s text
  recurrence-fold s text = by_front s [] text ∙ ap (λ t. fold step t text) (recurrence-nil s)

  -- a text in two pieces
  pub recurrence-append : (s : S) (text more : List ℕ) → recurrence step s (text ++ more) ≡ recurrence step (recurrence step s text) more
  recurrence-append s text more = by_front s text more ∙ sym (recurrence-fold (recurrence step s text) more)

  -- the step of a loop from the front
  pub recurrence_more : (s : S) (text : List ℕ) (i : ℕ) → i < length text
      → recurrence step s (take (i + 1) text) ≡ step (recurrence step s (take i text)) (get_or text i 0)
  recurrence_more s text i below = ap (recurrence step s) (take_more text i 0 below) ∙ recurrence-push s (take i text) (get_or text i 0)

  -- a text of one byte
  pub recurrence_one : (s : S) (text : List ℕ) → 1 ≤ length text → length text < 2 → recurrence step s text ≡ step s (get_or text 0 0)
  unfolding recurrence
  recurrence_one s [] some few = absurd (omega arith)
  recurrence_one s (byte ∷ []) some few = refl
  recurrence_one s (byte ∷ more ∷ rest) some few = absurd (omega arith)

  -- a text of k chunks, chunk by chunk
  chunked : (n k : ℕ) (s : S) (text : List ℕ) → length text ≡ k * n
      → fold (recurrence step) s (first_chunks n k text) ≡ recurrence step s text
  chunked n zero s text whole = rw (nil_from_length text (omega arith)) (sym (recurrence-nil s))
  chunked n (suc k) s text whole =
      chunked n k (recurrence step s (take n text)) (drop n text) (omega (arith, length-drop n text))
      ∙ sym (recurrence-append s (take n text) (drop n text)) ∙ ap (recurrence step s) (take-append-drop n text)

  -- the few bytes that come before the whole eights, and then eight by eight
  pub recurrence_by_eights : (s : S) (text : List ℕ)
      → fold (recurrence step) (recurrence step s (take (length text % 8) text))
      (first_chunks 8 (length text / 8) (drop (length text % 8) text))
      ≡ recurrence step s text
  recurrence_by_eights s text =
      let few = length text % 8 in
      chunked 8 (length text / 8) (recurrence step s (take few text)) (drop few text) (omega (arith, length-drop few text))
      ∙ sym (recurrence-append s (take few text) (drop few text)) ∙ ap (recurrence step s) (take-append-drop few text)

  -- the few first bytes and all eights
  pub all_eights : (s start state : S) (i : ℕ) (text few : List ℕ) (eights : List (List ℕ)) → length eights ≤ i
      → few ≡ take (length text % 8) text → eights ≡ first_chunks 8 (length text / 8) (drop (length text % 8) text)
      → start ≡ recurrence step s few → state ≡ fold (recurrence step) start (take i eights)
      → state ≡ recurrence step s text
  all_eights s start state i text few eights over front back begun so_far =
      so_far ∙ rw (take_all i eights over, back, begun, front) (recurrence_by_eights s text)

-- a text in pieces, each of which is split into items
pub recurrence-pieces : {S : Type 0} (step : S → ℕ → S) (items : List ℕ → List ℕ) (s : S) (pieces : List (List ℕ))
    → fold (λ t piece. recurrence step t (items piece)) s pieces ≡ recurrence step s (flat_map items pieces)
recurrence-pieces step items s [] = sym (recurrence-nil step s)
recurrence-pieces step items s (piece ∷ pieces) =
    recurrence-pieces step items (recurrence step s (items piece)) pieces
    ∙ sym (recurrence-append step s (items piece) (flat_map items pieces))

-- the form in which laws take it
pub recurrence_is_fold : (step : ℕ → ℕ → ℕ) (bound s : ℕ) (text : List ℕ) → s < bound → recurrence step s text ≡ fold step s text
recurrence_is_fold step bound s text known = recurrence-fold step s text

-- the turns of a loop over the bytes of a text, from the front
pub ruleset turns = (recurrence-nil, recurrence_more, take_all)
