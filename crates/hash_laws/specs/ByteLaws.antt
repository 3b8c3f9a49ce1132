-- What follows for a hasher whose state is a number below a bound, and which takes a step for each byte: its state
-- after a text is the fold of the step. the facts of the step are passed in.
use Rattle.std.specs.Prelude.{◌≡◌, ◌<◌, ◌∷◌, ◌++◌}
use Rattle.hash_laws.specs.Common.{ℕ, List, [], fold, ap, sym, ◌∙◌, refl, slice_index, length, arith, All-nil, All-head, All-tail, All-append, IsText}
use Rattle.std.proofs.Common.{append_assoc, append-nil}
use Rattle.std.proofs.lemmas.List.Sums.{fold-append}
use Rattle.hash_laws.specs.Recurrence.{recurrence}
use Rattle.hash_laws.specs.Standing.{StandsAt}
use Rattle.hash_laws.specs.RecurrenceLaws.{recurrence_is_fold}
use Rattle.hash_laws.specs.TextLaws.{IsByte}
use Rattle.hash_laws.specs.FoldLaws.{fold_in_range, fold_cancels}

module _ (step : ℕ → ℕ → ℕ) (bound : ℕ) (after : ℕ → List ℕ → ℕ)
    (is_fold : (s : ℕ) (text : List ℕ) → s < bound → after s text ≡ fold step s text) where
  -- one byte alone
  pub after_one : (s byte : ℕ) → s < bound → after s (byte ∷ []) ≡ step s byte
  after_one s byte known = is_fold s (byte ∷ []) known

  -- from one state different bytes lead to different states
  pub byte_injective : ((s a b : ℕ) → s < bound → a < 256 → b < 256 → step s a ≡ step s b → a ≡ b)
      → (s a b : ℕ) → s < bound → a < 256 → b < 256 → after s (a ∷ []) ≡ after s (b ∷ []) → a ≡ b
  byte_injective same_byte s a b known a_byte b_byte same =
      same_byte s a b known a_byte b_byte (sym (after_one s a known) ∙ same ∙ after_one s b known)

  -- before the first byte
  pub stands_at_start : (start : ℕ) → start < bound → (h : ℕ) → h ≡ start → StandsAt after bound h (start ∷ []) []
  stands_at_start start known h same = record {
    start = start;
    only = refl;
    in_range = known;
    is_text = All-nil IsByte;
    there = same ∙ sym (is_fold start [] known);
  }

  module _ (in_range : (s b : ℕ) → s < bound → b < 256 → step s b < bound) where
    -- a text leads from states in range to states in range
    pub after_below : (s : ℕ) (text : List ℕ) → s < bound → IsText text → after s text < bound
    after_below s text known bytes = rw (is_fold s text known) (fold_in_range step (λ u. u < bound) IsByte in_range s text known bytes)

    -- a text in two pieces
    pub after_joined : (s : ℕ) (text more : List ℕ) → s < bound → IsText text → IsText more
        → after s (text ++ more) ≡ after (after s text) more
    after_joined s text more known bytes _ =
        is_fold s (text ++ more) known ∙ fold-append step s text more ∙ ap (λ t. fold step t more) (sym (is_fold s text known))
        ∙ sym (is_fold (after s text) more (after_below s text known bytes))

    steps_alone : (s : ℕ) (text : List ℕ) → s < bound → IsText text → fold step s text ≡ fold (λ t byte. after t (byte ∷ [])) s text
    steps_alone s [] known bytes = refl
    steps_alone s (byte ∷ text) known bytes =
        steps_alone (step s byte) text (in_range s byte known (All-head IsByte byte text bytes)) (All-tail IsByte byte text bytes)
        ∙ ap (λ t. fold (λ u b. after u (b ∷ [])) t text) (sym (after_one s byte known))

    -- a text is its bytes, each a text of its own
    pub in_steps : (s : ℕ) (text : List ℕ) → s < bound → IsText text → after s text ≡ fold (λ t byte. after t (byte ∷ [])) s text
    in_steps s text known bytes = is_fold s text known ∙ steps_alone s text known bytes

    -- a piece extends the text
    pub stands_after : (h k : ℕ) (from text piece : List ℕ) → IsText piece → k ≡ after h piece → StandsAt after bound h from text
        → StandsAt after bound k from (text ++ piece)
    stands_after h k from text piece bytes led stood = record {
      start = stood.start;
      only = stood.only;
      in_range = stood.in_range;
      is_text = All-append IsByte text piece stood.is_text bytes;
      there = led ∙ ap (λ s. after s piece) stood.there ∙ sym (after_joined stood.start text piece stood.in_range stood.is_text bytes);
    }

    -- where each step is injective, so is a text
    pub after_injective : ((s t b : ℕ) → s < bound → t < bound → b < 256 → step s b ≡ step t b → s ≡ t)
        → (s t : ℕ) (text : List ℕ) → s < bound → t < bound → IsText text → after s text ≡ after t text → s ≡ t
    after_injective state_injective s t text ks kt bytes same =
        fold_cancels step (λ u. u < bound) IsByte in_range state_injective s t text ks kt bytes
        (sym (is_fold s text ks) ∙ same ∙ is_fold t text kt)

    -- a state from which a text leads to another is the only one
    pub undone : ((s t b : ℕ) → s < bound → t < bound → b < 256 → step s b ≡ step t b → s ≡ t)
        → (old state : ℕ) (text : List ℕ) → state < bound → IsText text → after state text ≡ old
        → (s : ℕ) → s < bound → after s text ≡ old → state ≡ s
    undone state_injective old state text known bytes back s ks led
        = after_injective state_injective state s text known ks bytes (back ∙ sym led)

-- what was taken out of a piece so far, from its end: from the state, these bytes lead to the old one
pub record Undoing (after : ℕ → List ℕ → ℕ) (bound old state : ℕ) (left piece : List ℕ) : Type 0 where
  pub taken : List ℕ
  pub split : piece ≡ left ++ taken
  pub back : after state taken ≡ old
  pub in_range : state < bound

module _ (step : ℕ → ℕ → ℕ) (bound : ℕ) (after : ℕ → List ℕ → ℕ)
    (is_fold : (s : ℕ) (text : List ℕ) → s < bound → after s text ≡ fold step s text) where
  -- nothing was taken out yet
  pub undoing_none : (state : ℕ) (left piece : List ℕ) → left ≡ piece → state < bound → Undoing after bound state state left piece
  undoing_none state left piece whole known = record {
    taken = [];
    split = sym whole ∙ sym (append-nil left);
    back = is_fold state [] known;
    in_range = known;
  }

  -- one byte more is taken out
  pub undoing_more : (old state before byte : ℕ) (left front piece : List ℕ) → left ≡ front ++ byte ∷ [] → before < bound
      → step before byte ≡ state
      → Undoing after bound old state left piece → Undoing after bound old before front piece
  undoing_more old state before byte left front piece last known there so_far = record {
    taken = byte ∷ so_far.taken;
    split = so_far.split ∙ ap (λ t. t ++ so_far.taken) last ∙ append_assoc front (byte ∷ []) so_far.taken;
    back = is_fold before (byte ∷ so_far.taken) known ∙ ap (λ s. fold step s so_far.taken) there
        ∙ sym (is_fold state so_far.taken so_far.in_range) ∙ so_far.back;
    in_range = known;
  }

-- all bytes are taken out
pub undoing_all : (after : ℕ → List ℕ → ℕ) (bound old state : ℕ) (left piece : List ℕ) → length left ≡ 0
    → Undoing after bound old state left piece → after state piece ≡ old
undoing_all after bound old state [] piece none all = ap (after state) all.split ∙ all.back
undoing_all after bound old state (byte ∷ left) piece none all = absurd (omega (arith, none))

-- where a hasher stands decides its state
pub stands_state : (after : ℕ → List ℕ → ℕ) (bound h : ℕ) (from text : List ℕ) → StandsAt after bound h from text
    → h ≡ after (slice_index from 0) text
stands_state after bound h from text stood = stood.there ∙ ap (λ s. after (slice_index s 0) text) (sym stood.only)

-- the state after a text, of a recurrence by bytes
pub recurrence_below : (step : ℕ → ℕ → ℕ) (bound : ℕ) → ((h b : ℕ) → h < bound → b < 256 → step h b < bound)
    → (s : ℕ) (text : List ℕ) → s < bound → IsText text → recurrence step s text < bound
recurrence_below step bound = after_below step bound (recurrence step) (recurrence_is_fold step bound)
