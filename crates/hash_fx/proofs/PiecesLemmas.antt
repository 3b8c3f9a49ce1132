-- Lists of pieces that differ at one byte.
use Rattle.hash_fx.proofs.Common.{◌≡◌, ℕ, ◌<◌, ◌^◌, List, [], ◌∷◌, ◌++◌, length, fold, refl, sym, ap, ◌∙◌, subst, lit<, ap₂, fx32_step, fx64_step, recurrence-fold, words32, words64, recurrence}
use Rattle.std.proofs.Common.{◌≢◌, inl, inr, All, flat_map}
use Rattle.std.proofs.lemmas.List.Elements.{All-nil, All-head, All-tail, All-append}
use Rattle.hash_laws.specs.StepFacts.{StepFacts}
use Rattle.hash_fx.specs.FxStepLaws.{fx32_facts, fx64_facts}
use Rattle.hash_laws.specs.Text.{IsText, joined, texts}
use Rattle.hash_fx.specs.FxLaws.{IsWord, words32-fit, words64-fit}
use Rattle.hash_fx.specs.Pieces.{DifferByOneWord, DifferByOneByte, fx32_pieces, fx64_pieces}
use Rattle.std.proofs.lemmas.List.Sums.{fold-append}
use Rattle.hash_laws.specs.FoldLaws.{fold_cancels}
use Rattle.hash_fx.proofs.CutsLemmas.{Pieces, SameCuts}
use Rattle.hash_fx.proofs.OneApart.{OneApart, OneApart-split, OneApart-append_left, OneApart-append_right, append_same, one_from_DifferAtOnePlace}
use Rattle.hash_fx.proofs.WordsApart.{TellApart, words32-apart, words64-apart}

-- pieces of the same lengths are known by their joined text
texts-same : (x y : Pieces) → SameCuts x y → joined x ≡ joined y → texts x ≡ texts y
texts-same [] [] cuts same = refl
texts-same [] (q ∷ y) cuts same = cc
texts-same (p ∷ x) [] cuts same = cc
texts-same (p ∷ x) (q ∷ y) cuts same =
    let len : length p.now ≡ length q.now = cc in
    let later : SameCuts x y = cc in
    let parts = append_same p.now q.now (joined x) (joined y) len same in
    ap₂ (λ t ts. t ∷ ts) parts.0 (texts-same x y later parts.1)

-- one byte apart, one word apart
words-apart : (words : List ℕ → List ℕ) → TellApart words → (x y : Pieces) → SameCuts x y → All IsText (texts x) → All IsText (texts y)
    → OneApart (joined x) (joined y) → OneApart (flat_map words (texts x)) (flat_map words (texts y))
words-apart words tells [] [] cuts xs ys one = one
words-apart words tells [] (q ∷ y) cuts xs ys one = cc
words-apart words tells (p ∷ x) [] cuts xs ys one = cc
words-apart words tells (p ∷ x) (q ∷ y) cuts xs ys one =
    let len : length p.now ≡ length q.now = cc in
    let later : SameCuts x y = cc in
    elim (OneApart-split p.now q.now (joined x) (joined y) len one) [
      | inl front ↦
          OneApart-append_left (words p.now) (words q.now) _ _
          (tells p.now q.now len (All-head IsText p.now (texts x) xs) (All-head IsText q.now (texts y) ys) front.0)
          (ap (flat_map words) (texts-same x y later front.1))
      | inr back ↦
          subst (λ t. OneApart (flat_map words (texts (p ∷ x))) (words t ++ flat_map words (texts y))) back.0
          (OneApart-append_right (words p.now) _ _ (words-apart words tells x y later (All-tail IsText p.now (texts x) xs)
          (All-tail IsText q.now (texts y) ys) back.1))
    ]

module _ (w : ℕ) (step : ℕ → ℕ → ℕ) (loses : StepFacts step (2 ^ w) (2 ^ w)) where
  -- one word apart, and so in the state
  fold-apart : (s : ℕ) (u v : List ℕ) → s < 2 ^ w → All (IsWord w) u → All (IsWord w) v → OneApart u v → fold step s u ≢ fold step s v
  fold-apart s [] [] known us vs one = absurd one
  fold-apart s [] (b ∷ v) known us vs one = absurd one
  fold-apart s (a ∷ u) [] known us vs one = absurd one
  fold-apart s (a ∷ u) (b ∷ v) known us vs one =
      let first = All-head (IsWord w) a u us in
      let second = All-head (IsWord w) b v vs in
      let rest = All-tail (IsWord w) a u us in
      elim one [
        | inl here ↦
            λ same. here.0 (loses.item_injective s a b known first second
            (fold_cancels step (IsWord w) (IsWord w) loses.in_range loses.state_injective (step s a) (step s b) u
            (loses.in_range s a known first) (loses.in_range s b known second) rest
            (same ∙ ap (fold step (step s b)) (sym here.1))))
        | inr later ↦
            λ same. fold-apart (step s a) u v (loses.in_range s a known first) rest (All-tail (IsWord w) b v vs) later.1
            (same ∙ ap (λ c. fold step (step s c) v) (sym later.0))
      ]

  module _ (words : List ℕ → List ℕ) (fit : (piece : List ℕ) → IsText piece → All (IsWord w) (words piece)) where
    -- the words of pieces come one after another
    fold-pieces : (s : ℕ) (ps : List (List ℕ)) → fold (λ t piece. recurrence step t (words piece)) s ps ≡ fold step s (flat_map words ps)
    fold-pieces s [] = refl
    fold-pieces s (p ∷ ps) =
        ap (λ t. fold (λ r piece. recurrence step r (words piece)) t ps) (recurrence-fold step s (words p))
        ∙ fold-pieces (fold step s (words p)) ps ∙ sym (fold-append step s (words p) (flat_map words ps))

    pieces-fit : (ps : List (List ℕ)) → All IsText ps → All (IsWord w) (flat_map words ps)
    pieces-fit [] all = All-nil (IsWord w)
    pieces-fit (p ∷ ps) all = All-append (IsWord w) (words p) (flat_map words ps) (fit p (All-head IsText p ps all))
        (pieces-fit ps (All-tail IsText p ps all))

    pub words-differ : (s : ℕ) (x y : Pieces) → s < 2 ^ w → All IsText (texts x) → All IsText (texts y)
        → OneApart (flat_map words (texts x)) (flat_map words (texts y))
        → fold (λ t piece. recurrence step t (words piece)) s (texts x) ≢ fold (λ t piece. recurrence step t (words piece)) s (texts y)
    words-differ s x y known xs ys one = λ same.
        fold-apart s (flat_map words (texts x)) (flat_map words (texts y)) known (pieces-fit (texts x) xs) (pieces-fit (texts y) ys) one
        (sym (fold-pieces s (texts x)) ∙ same ∙ fold-pieces s (texts y))

pub fx64_words-differ : (x y : Pieces) → All IsText (texts x) → All IsText (texts y) → DifferByOneWord words64 x y
    → fx64_pieces 0 (texts x) ≢ fx64_pieces 0 (texts y)
fx64_words-differ x y xs ys d = words-differ 64 fx64_step fx64_facts words64 words64-fit 0 x y (lit< tt) xs ys
    (one_from_DifferAtOnePlace _ _ d.one_word)

pub fx32_words-differ : (x y : Pieces) → All IsText (texts x) → All IsText (texts y) → DifferByOneWord words32 x y
    → fx32_pieces 0 (texts x) ≢ fx32_pieces 0 (texts y)
fx32_words-differ x y xs ys d = words-differ 32 fx32_step fx32_facts words32 words32-fit 0 x y (lit< tt) xs ys
    (one_from_DifferAtOnePlace _ _ d.one_word)

-- one byte apart is one word apart
module _ (words : List ℕ → List ℕ) (tells : TellApart words) (x y : Pieces) (xs : All IsText (texts x)) (ys : All IsText (texts y))
    (d : DifferByOneByte x y) where
  one-word : OneApart (flat_map words (texts x)) (flat_map words (texts y))
  one-word = words-apart words tells x y d.same_cuts xs ys (one_from_DifferAtOnePlace (joined x) (joined y) d.one_byte)

pub fx64_pieces-differ : (x y : Pieces) → All IsText (texts x) → All IsText (texts y) → DifferByOneByte x y
    → fx64_pieces 0 (texts x) ≢ fx64_pieces 0 (texts y)
fx64_pieces-differ x y xs ys d = words-differ 64 fx64_step fx64_facts words64 words64-fit 0 x y (lit< tt) xs ys
    (one-word words64 words64-apart x y xs ys d)

pub fx32_pieces-differ : (x y : Pieces) → All IsText (texts x) → All IsText (texts y) → DifferByOneByte x y
    → fx32_pieces 0 (texts x) ≢ fx32_pieces 0 (texts y)
fx32_pieces-differ x y xs ys d = words-differ 32 fx32_step fx32_facts words32 words32-fit 0 x y (lit< tt) xs ys
    (one-word words32 words32-apart x y xs ys d)
