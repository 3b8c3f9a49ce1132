use Rattle.hashsum_core.proofs.Common.{ℕ, List, [], ◌∷◌, All, All-cons, All-nil, texts, Ported, FxHash, FxHash32, FxHash64, append-nil, DifferAtOneWord, arith, nat_tests, common_steps}
use denote.Bor.{Bor}
use Rattle.hashers.specs.Fx.{words32, words64}
use Rattle.hashers.specs.Pieces.{DifferByOneWord}
use Rattle.hashers.specs.Text.{IsText}
use Rattle.hashsum_core.proofs.LawLemmas.{kind_never_passes}
use Rattle.hashsum_core.proofs.laws.a_changed_word_never_passes.Goals as goal

-- a text as one piece
abbrev piece : List ℕ → Bor (List ℕ)
piece text = record { ref_ptr = (0, 0); now = text }

is_one : (text : List ℕ) → IsText text → All IsText (texts (piece text ∷ []))
is_one text is = All-cons IsText text [] is (All-nil IsText)

one_word : (words : List ℕ → List ℕ) (x y : List ℕ) → DifferAtOneWord words x y → DifferByOneWord words (piece x ∷ []) (piece y ∷ [])
one_word words x y (same, differ) = grind (arith, nat_tests, common_steps, append-nil)

pub returns-clause-fxhash : goal.returns-clause-fxhash
returns-clause-fxhash g c =
    kind_never_passes g.F.Folder.opens (Ported FxHash) (DifferAtOneWord words64) (λ x y is_text also differ. c.one_changed_word_shows_fx.ensures.at_64 (piece x ∷ []) (piece y ∷ []) (is_one x is_text) (is_one y also) (one_word words64 x y differ))

pub returns-clause-fxhash64 : goal.returns-clause-fxhash64
returns-clause-fxhash64 g c =
    kind_never_passes g.F.Folder.opens (Ported FxHash64) (DifferAtOneWord words64) (λ x y is_text also differ. c.one_changed_word_shows_fx.ensures.at_64 (piece x ∷ []) (piece y ∷ []) (is_one x is_text) (is_one y also) (one_word words64 x y differ))

pub returns-clause-fxhash32 : goal.returns-clause-fxhash32
returns-clause-fxhash32 g c =
    kind_never_passes g.F.Folder.opens (Ported FxHash32) (DifferAtOneWord words32) (λ x y is_text also differ. c.one_changed_word_shows_fx.ensures.at_32 (piece x ∷ []) (piece y ∷ []) (is_one x is_text) (is_one y also) (one_word words32 x y differ))
