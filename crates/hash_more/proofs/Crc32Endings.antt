-- The one ending of four bytes that leads a CRC from one state to another, and a text to an answer.
use Rattle.hash_more.proofs.Crc32Common.{◌≡◌, ℕ, zero, suc, ◌+◌, ◌*◌, ◌/◌, ◌%◌, ◌^◌, ◌<◌, List, ◌++◌, bit_xor, sym, ap, ◌∙◌, refl, lit<, arith, inl, inr, w32, xor_comm, xor_lt, IsText, after_below, recurrence-append, recurrence_is_fold, IsText-to_le_bytes, le, xor_twice, xor_cancel, xor_cancel_left, all_ones, bit_out, bits_out, crc_step, crc_from, crc_answer, bits_out-same, crc_facts}
use Rattle.std.specs.Int.{to_le_bytes}
use Rattle.std.proofs.lemmas.Bool.{cases_eq}
use Rattle.hash_laws.specs.Exactly.{ExactlyTexts}
use Rattle.hash_laws.proofs.ExactlyLemmas.{Exactly-one}
use Rattle.hash_words.proofs.PieceLemmas.{IsPiece, le-lt, le-same}
use Rattle.hash_words.proofs.WordLemmas.{le-to_le_bytes-32}
use Rattle.hash_more.specs.Crc32Laws.{crc_from-lt}
use Rattle.hash_more.proofs.Crc32Lemmas.{bit_in_set, bit_in_unset}
use Rattle.hash_more.proofs.Crc32Texts.{bits_out-more, crc_from-number}

-- four times eight bits
pub four_bytes_out : (p a b c d e : ℕ) → bits_out p 8 b ≡ a → bits_out p 8 c ≡ b → bits_out p 8 d ≡ c → bits_out p 8 e ≡ d
    → bits_out p 32 e ≡ a
four_bytes_out p a b c d e first second third last =
    sym (bits_out-more p 8 24 e) ∙ ap (bits_out p 24) last ∙ sym (bits_out-more p 8 16 d) ∙ ap (bits_out p 16) third
    ∙ sym (bits_out-more p 8 8 c) ∙ ap (bits_out p 8) second ∙ first

module _ (p : ℕ) (highest : p / 2 ^ 31 ≡ 1) where
  -- a word that so many bits go out of, to another
  abbrev LeadsOut : ℕ → ℕ → Type 0
  LeadsOut n x = (word : ℕ) × (word < 2 ^ 32) × (bits_out p n word ≡ x)

  one_leads : (x : ℕ) → x < 2 ^ 32 → (word : ℕ) × (word < 2 ^ 32) × (bit_out p word ≡ x)
  one_leads x x_in = elim (cases_eq (x / 2 ^ 31) 1) [
    | inl set ↦ (bit_xor x p * 2 % 2 ^ 32 + 1, omega arith, bit_in_set p x highest x_in set)
    | inr unset ↦ (x * 2 % 2 ^ 32, omega arith, bit_in_unset p x unset x_in)
  ]

  leads_out : (n x : ℕ) → x < 2 ^ 32 → LeadsOut n x
  leads_out zero x x_in = (x, x_in, refl)
  leads_out (suc n) x x_in =
      let rest = leads_out n x x_in in
      let one = one_leads rest.0 rest.1 in
      (one.0, one.1, ap (bits_out p n) one.2 ∙ rest.2)

  -- ---- from state to state

  four-in : (h : ℕ) (ending : List ℕ) → IsPiece 4 ending → crc_from p h ending ≡ bits_out p 32 (bit_xor h (le ending))
  four-in h ending is = crc_from-number p ending h is.0 ∙ ap (λ n. bits_out p (8 * n) (bit_xor h (le ending))) is.1

  -- the bytes of a word with the state xored in
  abbrev pub ending_of : ℕ → ℕ → List ℕ
  ending_of h word = to_le_bytes w32 (bit_xor word h)

  pub ending_of-piece : (h word : ℕ) → IsPiece 4 (ending_of h word)
  ending_of-piece h word = (IsText-to_le_bytes w32 (bit_xor word h), refl)

  pub ending_of-leads : (h word after : ℕ) → h < 2 ^ 32 → word < 2 ^ 32 → bits_out p 32 word ≡ after → crc_from p h (ending_of h word) ≡ after
  ending_of-leads h word after h_in word_in out =
      four-in h (ending_of h word) (ending_of-piece h word)
      ∙ ap (λ n. bits_out p 32 (bit_xor h n)) (le-to_le_bytes-32 (bit_xor word h) (xor_lt 32 word h word_in h_in))
      ∙ ap (bits_out p 32) (xor_comm h (bit_xor word h) ∙ xor_twice word h) ∙ out

  endings-same : (h : ℕ) (x y : List ℕ) → h < 2 ^ 32 → IsPiece 4 x → IsPiece 4 y → crc_from p h x ≡ crc_from p h y → x ≡ y
  endings-same h x y h_in x_is y_is same =
      let below : (z : List ℕ) → IsPiece 4 z → bit_xor h (le z) < 2 ^ 32 =
      λ z z_is. xor_lt 32 h (le z) h_in (rw z_is.1 at (le-lt z z_is.0)) in
      let words = bits_out-same p highest 32 _ _ (below x x_is) (below y y_is) (sym (four-in h x x_is) ∙ same ∙ four-in h y y_is) in
      le-same x y x_is.0 y_is.0 (x_is.1 ∙ sym y_is.1) (xor_cancel_left h (le x) (le y) words)

  -- ---- behind a text

  abbrev crc_of : List ℕ → ℕ
  crc_of text = crc_answer (crc_from p all_ones text)

  crc_of-joined : (text ending : List ℕ) → crc_of (text ++ ending) ≡ crc_answer (crc_from p (crc_from p all_ones text) ending)
  crc_of-joined text ending = ap crc_answer (recurrence-append (crc_step p) all_ones text ending)

  -- no other ending leads to the answer
  pub answers-same : (text x y : List ℕ) → IsText text → IsPiece 4 x → IsPiece 4 y → crc_of (text ++ x) ≡ crc_of (text ++ y) → x ≡ y
  answers-same text x y is_text x_is y_is same =
      endings-same (crc_from p all_ones text) x y (crc_from-lt p highest text is_text) x_is y_is
      (xor_cancel _ _ all_ones (sym (crc_of-joined text x) ∙ same ∙ crc_of-joined text y))

  -- an ending that leads from the state behind a text to that of the answer
  pub answer-behind : (text ending : List ℕ) (before answer : ℕ) → before ≡ crc_of text
      → crc_from p (bit_xor before all_ones) ending ≡ bit_xor answer all_ones → crc_of (text ++ ending) ≡ answer
  answer-behind text ending before answer is led =
      let state : bit_xor before all_ones ≡ crc_from p all_ones text =
      ap (λ h. bit_xor h all_ones) is ∙ xor_twice (crc_from p all_ones text) all_ones in
      crc_of-joined text ending ∙ ap crc_answer (ap (λ s. crc_from p s ending) (sym state) ∙ led) ∙ xor_twice answer all_ones

  -- nor does one that is known to lead there
  pub answer-alone : (text ending own : List ℕ) (before answer : ℕ) → IsText text → IsPiece 4 ending → IsPiece 4 own → before ≡ crc_of text
      → crc_from p (bit_xor before all_ones) own ≡ bit_xor answer all_ones → crc_of (text ++ ending) ≡ answer → ending ≡ own
  answer-alone text ending own before answer is_text is own_is known led leads =
      answers-same text ending own is_text is own_is (leads ∙ sym (answer-behind text own before answer known led))

  pub one-ending : (text : List ℕ) (answer : ℕ) → IsText text → answer < 2 ^ 32
      → ExactlyTexts 1 4 (λ ending. crc_of (text ++ ending) ≡ answer)
  one-ending text answer is_text answer_in =
      let state = crc_from p all_ones text in
      let state_in = crc_from-lt p highest text is_text in
      let word = leads_out 32 (bit_xor answer all_ones) (xor_lt 32 answer all_ones answer_in (lit< tt)) in
      let ending = ending_of state word.0 in
      let is = ending_of-piece state word.0 in
      let led : crc_of (text ++ ending) ≡ answer =
      crc_of-joined text ending ∙ ap crc_answer (ending_of-leads state word.0 _ state_in word.1 word.2) ∙ xor_twice answer all_ones in
      Exactly-one _ ending (is.0, is.1, led)
      (λ other known. answers-same text other ending is_text (known.0, known.1) is (known.2 ∙ sym led))
