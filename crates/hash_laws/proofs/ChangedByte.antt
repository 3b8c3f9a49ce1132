-- One changed byte shows in the answer, where each step and the answer are injective.
use Rattle.hash_laws.proofs.WindowCommon.{◌≡◌, ◌≢◌, ℕ, ◌<◌, List, [], ◌∷◌, fold, sym, ◌∙◌, IsText, DifferAtOnePlace, IsText-one}
use Rattle.hash_laws.proofs.WindowLemmas.{DifferWithin-fold, Separates-one}
use Rattle.hash_laws.proofs.WindowTest.{one_place_window}

pub answers_differ : {S : Type 0} (in_range : S → Type 0) (after : S → List ℕ → S) (answer : S → ℕ) (hash_of : List ℕ → ℕ) (fresh : S)
    → in_range fresh
    → ((s : S) (text : List ℕ) → in_range s → IsText text → in_range (after s text))
    → ((s t : S) (text : List ℕ) → in_range s → in_range t → IsText text → after s text ≡ after t text → s ≡ t)
    → ((s : S) (x y : ℕ) → in_range s → x < 256 → y < 256 → after s (x ∷ []) ≡ after s (y ∷ []) → x ≡ y)
    → ((s : S) (text : List ℕ) → in_range s → IsText text → after s text ≡ fold (λ t byte. after t (byte ∷ [])) s text)
    → ((s t : S) → in_range s → in_range t → answer s ≡ answer t → s ≡ t)
    → ((text : List ℕ) → hash_of text ≡ answer (after fresh text))
    → (x y : List ℕ) → IsText x → IsText y → DifferAtOnePlace x y → hash_of x ≢ hash_of y
answers_differ {S} in_range after answer hash_of fresh known stays state_injective byte_injective in_steps answer_injective hash_is x y xs
    ys one same =
    let step = λ (s : S) (byte : ℕ). after s (byte ∷ []) in
    let separates = Separates-one step in_range
    (λ s b s_in below. stays s (b ∷ []) s_in (IsText-one b below))
    (λ s t b s_in t_in below. state_injective s t (b ∷ []) s_in t_in (IsText-one b below))
    byte_injective in
    DifferWithin-fold step in_range 1 0 (λ (n : ℕ) (s t : S). s ≢ t) separates fresh x y known xs ys (one_place_window x y one)
    (sym (in_steps fresh x known xs)
    ∙ answer_injective _ _ (stays fresh x known xs) (stays fresh y known ys) (sym (hash_is x) ∙ same ∙ hash_is y)
    ∙ in_steps fresh y known ys)
