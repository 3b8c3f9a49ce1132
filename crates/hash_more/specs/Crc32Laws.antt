-- The step of a CRC stays in range and is injective, and what undoes it, for each polynomial of degree 32 that has the term 1.
use Rattle.std.proofs.Common.{◌≡◌, ℕ, List, lit<, zero, suc, ◌*◌, ◌/◌, ◌%◌, ◌^◌, ◌<◌, bit_xor, sym, ap, ◌∙◌, arith}
use Rattle.std.proofs.lemmas.Nat.{xor_lt, xor_shr, xor_comm}
use Rattle.std.specs.Int.Bits.{xor_zero_r}
use Rattle.hash_laws.specs.StepFacts.{StepFacts}
use Rattle.hash_laws.specs.Text.{IsText}
use Rattle.hash_laws.specs.ByteLaws.{recurrence_below}
use Rattle.hash_words.proofs.XorLemmas.{xor_twice, xor_cancel, xor_cancel_left, xored_32}
use Rattle.hash_more.specs.Crc32.{all_ones, bit_out, bits_out, crc_step, crc_from, crc_answer}

-- the term 1 is the highest bit, since the bits are in reverse order
module _ (p : ℕ) (highest : p / 2 ^ 31 ≡ 1) where
  -- what one bit takes with it has this bit as its highest
  taken_high : (bit : ℕ) → bit < 2 → bit * p / 2 ^ 31 ≡ bit
  taken_high zero small = omega arith
  taken_high (suc zero) small = omega (arith, highest)
  taken_high (suc (suc n)) small = absurd (omega arith)

  pub bit_out-lt : (word : ℕ) → word < 2 ^ 32 → bit_out p word < 2 ^ 32
  bit_out-lt word known = xor_lt 32 (word / 2) (word % 2 * p) (omega arith) (omega (arith, taken_high (word % 2) (omega arith)))

  pub bits_out-lt : (n word : ℕ) → word < 2 ^ 32 → bits_out p n word < 2 ^ 32
  bits_out-lt zero word known = known
  bits_out-lt (suc n) word known = bits_out-lt n (bit_out p word) (bit_out-lt word known)

  -- the highest bit is the one that went out
  out_is_high : (word : ℕ) → word < 2 ^ 32 → bit_out p word / 2 ^ 31 ≡ word % 2
  out_is_high word known =
      let low : word / 2 / 2 ^ 31 ≡ 0 = omega arith in
      xor_shr (word / 2) (word % 2 * p) 31 ∙ ap (λ x. bit_xor x (word % 2 * p / 2 ^ 31)) low
      ∙ ap (bit_xor 0) (taken_high (word % 2) (omega arith)) ∙ xor_comm 0 (word % 2) ∙ xor_zero_r (word % 2)

  bit_out-same : (x y : ℕ) → x < 2 ^ 32 → y < 2 ^ 32 → bit_out p x ≡ bit_out p y → x ≡ y
  bit_out-same x y xs ys e =
      let low : x % 2 ≡ y % 2 = sym (out_is_high x xs) ∙ ap (λ n. n / 2 ^ 31) e ∙ out_is_high y ys in
      let rest : x / 2 ≡ y / 2 = xor_cancel (x / 2) (y / 2) (x % 2 * p) (e ∙ ap (λ n. bit_xor (y / 2) (n * p)) (sym low)) in
      omega (arith, low, rest)

  pub bits_out-same : (n x y : ℕ) → x < 2 ^ 32 → y < 2 ^ 32 → bits_out p n x ≡ bits_out p n y → x ≡ y
  bits_out-same zero x y xs ys e = e
  bits_out-same (suc n) x y xs ys e =
      bit_out-same x y xs ys (bits_out-same n (bit_out p x) (bit_out p y) (bit_out-lt x xs) (bit_out-lt y ys) e)

  pub crc_facts : StepFacts (crc_step p) (2 ^ 32) 256
  crc_facts = record {
    in_range = λ h b hs sb. bits_out-lt 8 (bit_xor h b) (xored_32 h b hs sb);
    state_injective = λ h k b hs ks sb e. xor_cancel h k b (bits_out-same 8 _ _ (xored_32 h b hs sb) (xored_32 k b ks sb) e);
    item_injective = λ h a b hs sa sb e. xor_cancel_left h a b (bits_out-same 8 _ _ (xored_32 h a hs sa) (xored_32 h b hs sb) e);
  }

  -- the state after a text, and the answer
  pub crc_from-lt : (text : List ℕ) → IsText text → crc_from p all_ones text < 2 ^ 32
  crc_from-lt text is = recurrence_below (crc_step p) (2 ^ 32) crc_facts.in_range all_ones text (lit< tt) is

  pub crc_answer-lt : (text : List ℕ) → IsText text → crc_answer (crc_from p all_ones text) < 2 ^ 32
  crc_answer-lt text is = xor_lt 32 (crc_from p all_ones text) all_ones (crc_from-lt text is) (lit< tt)

-- what eight bits went out of, with the byte xored in
pub crc_back : (p h b word : ℕ) → bits_out p 8 word ≡ h → crc_step p (bit_xor word b) b ≡ h
crc_back p h b word e = ap (bits_out p 8) (xor_twice word b) ∙ e

pub crc_answer_same : (s t : ℕ) → s < 2 ^ 32 → t < 2 ^ 32 → crc_answer s ≡ crc_answer t → s ≡ t
crc_answer_same s t ks kt e = xor_cancel s t all_ones e
