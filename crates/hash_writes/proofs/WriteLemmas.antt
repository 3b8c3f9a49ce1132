-- Writes that are taken back from the last to the first.
use Rattle.hash_writes.proofs.Common.{ℕ, ◌≡◌, subst, List, [], ◌∷◌, ◌++◌, fold, map, length, ap, sym, ◌∙◌, refl, append_assoc, arith, append-nil, All, All-nil, All-cons, IsText, IsTakenOut, fold-pieces}
use Rattle.std.proofs.Common.{flat_map}

-- of all items those at the end were taken back: from the state they lead to the old one, and from no other
pub record TakenBack {A S : Type 0} (text_of : A → List ℕ) (in_range : S → Type 0) (after : S → List ℕ → S) (old state : S)
    (left all : List A) : Type 0 where
  pub taken : List A
  pub split : all ≡ left ++ taken
  pub texts : All IsText (map text_of taken)
  pub back : fold after state (map text_of taken) ≡ old
  pub undone : (s : S) → in_range s → fold after s (map text_of taken) ≡ old → state ≡ s

module _ {A S : Type 0} (text_of : A → List ℕ) (in_range : S → Type 0) (after : S → List ℕ → S) where
  -- nothing was taken back yet
  pub none_taken : (state : S) (left all : List A) → left ≡ all → TakenBack text_of in_range after state state left all
  none_taken state left all whole = record {
    taken = [];
    split = sym whole ∙ sym (append-nil left);
    texts = All-nil IsText;
    back = refl;
    undone = λ s known led. sym led;
  }

  -- one item more is taken back
  pub one_more_taken : ((s : S) (piece : List ℕ) → in_range s → IsText piece → in_range (after s piece))
      → (old state before : S) (item : A) (left front all : List A) → left ≡ front ++ item ∷ []
      → IsTakenOut in_range after state before (text_of item)
      → TakenBack text_of in_range after old state left all → TakenBack text_of in_range after old before front all
  one_more_taken stays old state before item left front all last out so_far = record {
    taken = item ∷ so_far.taken;
    split = so_far.split ∙ ap (λ t. t ++ so_far.taken) last ∙ append_assoc front (item ∷ []) so_far.taken;
    texts = All-cons IsText (text_of item) (map text_of so_far.taken) out.is_text so_far.texts;
    back = ap (λ s. fold after s (map text_of so_far.taken)) out.back ∙ so_far.back;
    undone = λ s known led. out.only s known (sym (so_far.undone (after s (text_of item)) (stays s (text_of item) known out.is_text) led));
  }

  -- all were taken back
  pub all_taken : (old state : S) (left all : List A) → length left ≡ 0 → TakenBack text_of in_range after old state left all
      → (fold after state (map text_of all) ≡ old) × ((s : S) → in_range s → fold after s (map text_of all) ≡ old → state ≡ s)
      × All IsText (map text_of all)
  all_taken old state [] all none taken = (
    ap (λ items. fold after state (map text_of items)) taken.split ∙ taken.back,
    (λ s known led. taken.undone s known (sym (ap (λ items. fold after s (map text_of items)) taken.split) ∙ led)),
    subst (λ items. All IsText (map text_of items)) (sym taken.split) taken.texts,
  )
  all_taken old state (item ∷ left) all none taken = absurd (omega (arith, none))

flat_map-map : {A : Type 0} (text_of : A → List ℕ) (items : List A) → flat_map (λ p. p) (map text_of items) ≡ flat_map text_of items
flat_map-map text_of [] = refl
flat_map-map text_of (item ∷ items) = ap (λ t. text_of item ++ t) (flat_map-map text_of items)

-- where a text in two pieces leads to where it leads whole, the items lead to where their joined text leads
pub fold-joined : {A S : Type 0} (text_of : A → List ℕ) (in_range : S → Type 0) (after : S → List ℕ → S)
    → ((s : S) (piece : List ℕ) → in_range s → IsText piece → in_range (after s piece))
    → ((s : S) → in_range s → after s [] ≡ s)
    → ((s : S) (text more : List ℕ) → in_range s → IsText text → IsText more → after s (text ++ more) ≡ after (after s text) more)
    → (s : S) (items : List A) → in_range s → All IsText (map text_of items)
    → fold after s (map text_of items) ≡ after s (flat_map text_of items)
fold-joined text_of in_range after stays nothing joins s items known texts =
    (fold-pieces in_range after stays nothing joins s (map text_of items) known texts).0 ∙ ap (after s) (flat_map-map text_of items)
