-- Short words that differ stand in a djb2 window.
use Rattle.hashers.proofs.Common.{◌≡◌, ◌≢◌, ℕ, ◌≤◌, List, length, get_or, arith, sym, ◌∙◌, ap, ⊎_elim, bytes_eq, bit_and, cases_lt, cases_Bool, false≢true, and_high, IsText, DifferWithin, djb2_from}
use Rattle.std.proofs.lemmas.Slice.Eq.{bytes_eq-Decides}
use Rattle.std.proofs.lemmas.List.{get_or_past}
use Rattle.hashers.specs.ShortWords.{IsShortWord}
use Rattle.hashers.proofs.Collisions.{djb2_apart}

letter_top : (b : ℕ) → 97 ≤ b → b ≤ 122 → bit_and b 224 ≡ 96
letter_top b low high = omega (arith, and_high b 3 5)

words_window : (x y : List ℕ) → length x ≡ length y → IsShortWord x → IsShortWord y → x ≢ y → DifferWithin 6 224 x y
words_window x y len wx wy ne = record {
  same_length = len;
  different = ne;
  within = (
    0,
    λ i outside. ⊎_elim (λ q. omega arith)
        (λ q. get_or_past x i 0 (omega (arith, wx.short)) ∙ sym (get_or_past y i 0 (omega (arith, wy.short)))) outside,
  );
  under_mask = λ i. ⊎_elim
      (λ q. letter_top (get_or x i 0) (wx.letters i 0 q).0 (wx.letters i 0 q).1
      ∙ sym (letter_top (get_or y i 0) (wy.letters i 0 (omega arith)).0 (wy.letters i 0 (omega arith)).1))
      (λ q. ap (λ b. bit_and b 224) (get_or_past x i 0 q ∙ sym (get_or_past y i 0 (omega arith))))
      (cases_lt i (length x));
}

pub djb2_same_word : (x y : List ℕ) → IsText x → IsText y → length x ≡ length y → IsShortWord x → IsShortWord y
    → djb2_from 5381 x ≡ djb2_from 5381 y → x ≡ y
djb2_same_word x y xs ys len wx wy e =
    let decides = bytes_eq-Decides x y in
    ⊎_elim decides.0 (λ f. absurd (djb2_apart x y xs ys (words_window x y len wx wy (λ q. false≢true (sym f ∙ decides.1 q))) e))
    (cases_Bool (bytes_eq x y))
