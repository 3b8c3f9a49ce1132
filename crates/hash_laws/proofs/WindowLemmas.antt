-- Two texts whose bytes differ within a few neighbouring places lead to different states, where the step keeps
-- different states different and separates two states place by place.
use Rattle.hash_laws.proofs.WindowCommon.{◌≡◌, ◌≢◌, ℕ, zero, suc, ◌+◌, ◌-◌, ◌<◌, ◌≤◌, List, [], ◌∷◌, length, get_or, fold, arith, refl, ap, sym, ◌∙◌, inl, inr, ⊎_elim, ◌↔◌, Bool, IsTrue, Fits, w8, ap₂, bit_and, cases_eq, cases_lt, OnTrue_from, IsText, DifferWithin, AgreeOutside, AgreeUnder, IsByte, IsText-from_slice}
use Rattle.std.proofs.Common.{ext_get_or}
use Rattle.std.proofs.lemmas.List.Elements.{All-head, All-tail}
use Rattle.std.specs.Bool.{OnTrue}
use Rattle.hash_laws.specs.FoldLaws.{fold_cancels}

-- a step on states that separates two of them by `places` neighbouring bytes that agree under the mask: `Apart n`
-- relates the states that the first place at which the bytes differ and n further places have led to
pub record Separates {S : Type 0} (step : S → ℕ → S) (is_state : S → Type 0) (places mask : ℕ) (Apart : ℕ → S → S → Type 0) : Type 0 where
  pub in_range : (s : S) (b : ℕ) → is_state s → b < 256 → is_state (step s b)
  pub state_injective : (s t : S) (b : ℕ) → is_state s → is_state t → b < 256 → step s b ≡ step t b → s ≡ t
  pub first : (s : S) (a b : ℕ) → is_state s → a < 256 → b < 256 → bit_and a mask ≡ bit_and b mask → a ≢ b → Apart 0 (step s a) (step s b)
  pub next : (n : ℕ) (s t : S) (a b : ℕ) → suc n < places → is_state s → is_state t → a < 256 → b < 256 → bit_and a mask ≡ bit_and b mask
      → Apart n s t → Apart (suc n) (step s a) (step t b)
  pub apart : (n : ℕ) (s t : S) → Apart n s t → s ≢ t

module _ {S : Type 0} (step : S → ℕ → S) (is_state : S → Type 0) (places mask : ℕ) (Apart : ℕ → S → S → Type 0)
    (laws : Separates step is_state places mask Apart) where
  -- equal bytes keep different states different
  fold_differs : (s t : S) (text : List ℕ) → is_state s → is_state t → IsText text → s ≢ t → fold step s text ≢ fold step t text
  fold_differs s t text ks kt bytes differ same
      = differ (fold_cancels step is_state IsByte laws.in_range laws.state_injective s t text ks kt bytes same)

  -- one place and n further places of the window have passed, and r are left
  rest_differs : (n r : ℕ) (s t : S) (x y : List ℕ) → suc n + r ≡ places → is_state s → is_state t → IsText x → IsText y
      → length x ≡ length y → AgreeUnder mask x y → ((i : ℕ) → r ≤ i → get_or x i 0 ≡ get_or y i 0)
      → Apart n s t → fold step s x ≢ fold step t y
  rest_differs n r s t [] [] left ks kt xs ys len under after far = laws.apart n s t far
  rest_differs n r s t [] (b ∷ y) left ks kt xs ys len under after far = λ _. omega (arith, len)
  rest_differs n r s t (a ∷ x) [] left ks kt xs ys len under after far = λ _. omega (arith, len)
  rest_differs n zero s t (a ∷ x) (b ∷ y) left ks kt xs ys len under after far =
      let same : ◌≡◌ {A = List ℕ} (a ∷ x) (b ∷ y) = ext_get_or 0 (a ∷ x) (b ∷ y) len (λ i _. after i (omega arith)) in
      λ e. fold_differs s t (a ∷ x) ks kt xs (laws.apart n s t far) (e ∙ ap (fold step t) (sym same))
  rest_differs n (suc r) s t (a ∷ x) (b ∷ y) left ks kt xs ys len under after far =
      let a_byte = All-head IsByte a x xs in
      let b_byte = All-head IsByte b y ys in
      rest_differs (suc n) r (step s a) (step t b) x y (omega arith) (laws.in_range s a ks a_byte) (laws.in_range t b kt b_byte)
      (All-tail IsByte a x xs) (All-tail IsByte b y ys) (omega (arith, len)) (λ i. under (suc i)) (λ i p. after (suc i) (omega arith))
      (laws.next n s t a b (omega arith) ks kt a_byte b_byte (under 0) far)

  -- from one state, before the first place at which the texts differ
  window_differs : (from : ℕ) (s : S) (x y : List ℕ) → is_state s → IsText x → IsText y → length x ≡ length y → AgreeUnder mask x y
      → AgreeOutside from places x y → x ≢ y → fold step s x ≢ fold step s y
  window_differs from s [] [] ks xs ys len under outside ne = λ _. ne refl
  window_differs from s [] (b ∷ y) ks xs ys len under outside ne = λ _. omega (arith, len)
  window_differs from s (a ∷ x) [] ks xs ys len under outside ne = λ _. omega (arith, len)
  window_differs from s (a ∷ x) (b ∷ y) ks xs ys len under outside ne =
      let a_byte = All-head IsByte a x xs in
      let b_byte = All-head IsByte b y ys in
      elim (cases_eq a b) [
        | inl same ↦
            λ e. window_differs (from - 1) (step s a) x y (laws.in_range s a ks a_byte) (All-tail IsByte a x xs) (All-tail IsByte b y ys)
            (omega (arith, len)) (λ i. under (suc i))
            (λ i p. outside (suc i) (⊎_elim (λ q. inl (omega arith)) (λ q. inr (omega arith)) p))
            (λ tails. ne (ap₂ (λ c t. c ∷ t) same tails))
            (e ∙ ap (λ c. fold step (step s c) y) (sym same))
        | inr differ ↦
            let here : from < 1 = ⊎_elim (λ q. q) (λ q. absurd (differ (outside 0 (inl (omega arith))))) (cases_lt from 1) in
            let room : 0 < places = ⊎_elim (λ q. q) (λ q. absurd (differ (outside 0 (inr (omega arith))))) (cases_lt 0 places) in
            rest_differs 0 (places - 1) (step s a) (step s b) x y (omega arith) (laws.in_range s a ks a_byte) (laws.in_range s b ks b_byte)
            (All-tail IsByte a x xs) (All-tail IsByte b y ys) (omega (arith, len)) (λ i. under (suc i))
            (λ i p. outside (suc i) (inr (omega arith)))
            (laws.first s a b ks a_byte b_byte (under 0) differ)
      ]

  -- texts that a window separates lead to different states
  pub DifferWithin-fold : (start : S) (x y : List ℕ) → is_state start → IsText x → IsText y → DifferWithin places mask x y
      → fold step start x ≢ fold step start y
  DifferWithin-fold start x y known xs ys window =
      window_differs window.within.0 start x y known xs ys window.same_length window.under_mask window.within.1 window.different

-- a step that loses nothing separates two states by one byte
pub Separates-one : {S : Type 0} (step : S → ℕ → S) (is_state : S → Type 0)
    → ((s : S) (b : ℕ) → is_state s → b < 256 → is_state (step s b))
    → ((s t : S) (b : ℕ) → is_state s → is_state t → b < 256 → step s b ≡ step t b → s ≡ t)
    → ((s : S) (a b : ℕ) → is_state s → a < 256 → b < 256 → step s a ≡ step s b → a ≡ b)
    → Separates step is_state 1 0 (λ _ s t. s ≢ t)
Separates-one step is_state in_range state_injective same_byte = record {
  in_range = in_range;
  state_injective = state_injective;
  first = λ s a b known sa sb mask ne e. ne (same_byte s a b known sa sb e);
  next = λ n s t a b fits ks kt sa sb mask far. absurd (omega arith);
  apart = λ n s t far. far;
}

-- where the hash is the fold of a step that separates two texts, it tells them apart
pub hash_apart : (step : ℕ → ℕ → ℕ) (bound places mask : ℕ) (Apart : ℕ → ℕ → ℕ → Type 0) → Separates step (λ s. s < bound) places mask Apart
    → (hash : ℕ → List ℕ → ℕ) → ((s : ℕ) (text : List ℕ) → s < bound → hash s text ≡ fold step s text)
    → (start : ℕ) (x y : List ℕ) → start < bound → IsText x → IsText y → DifferWithin places mask x y → hash start x ≢ hash start y
hash_apart step bound places mask Apart laws hash is_fold start x y known xs ys window same =
    DifferWithin-fold step (λ s. s < bound) places mask Apart laws start x y known xs ys window
    (sym (is_fold start x known) ∙ same ∙ is_fold start y known)

-- a test that is true just where two texts differ within a window tells them apart
pub window_tells_apart : {places mask : ℕ} {hash : List ℕ → ℕ}
    → ((x y : List ℕ) → IsText x → IsText y → DifferWithin places mask x y → hash x ≢ hash y)
    → (x y : List ℕ) → ((i : ℕ) → Fits w8 (get_or x i 0)) → ((i : ℕ) → Fits w8 (get_or y i 0))
    → (told : Bool) → (IsTrue told ↔ DifferWithin places mask x y) → OnTrue told (hash x ≢ hash y)
window_tells_apart apart x y xs ys told window =
    OnTrue_from told _ (λ is. apart x y (IsText-from_slice x xs) (IsText-from_slice y ys) (window.0 is))
