-- Two texts of one front, two middles of one length, and one back.
use Rattle.hash_laws.proofs.WindowCommon.{◌≡◌, ◌≢◌, ◌⊎◌, ℕ, ◌+◌, ◌-◌, ◌<◌, ◌≤◌, List, [], ◌∷◌, ◌++◌, length, get_or, bit_and, refl, arith, sym, ap, ◌∙◌, inl, inr, ⊎_elim, length-append, cases_lt, append_cancel_left, append_cancel_right, get_or_append_left, get_or-append_right, DifferWithin, AgreeUnder, DifferAtOnePlace}
use Rattle.std.proofs.Math.Seq.{get_or-append_seam}

in_middle : (front z back : List ℕ) (i : ℕ) → length front ≤ i → i < length front + length z
    → get_or (front ++ (z ++ back)) i 0 ≡ get_or z (i - length front) 0
in_middle front z back i from below = get_or-append_right front (z ++ back) (length front) i 0 refl from
    ∙ get_or_append_left z back 0 (i - length front) (omega (arith, from, below))

in_back : (front z back : List ℕ) (i n : ℕ) → length z ≡ n → length front + n ≤ i
    → get_or (front ++ (z ++ back)) i 0 ≡ get_or back (i - length front - n) 0
in_back front z back i n len from = get_or-append_right front (z ++ back) (length front) i 0 refl (omega (arith, from))
    ∙ get_or-append_right z back n (i - length front) 0 len (omega (arith, from))

-- outside the middle
pub same_outside : (front x y back : List ℕ) (i : ℕ) → length x ≡ length y → (i < length front) ⊎ (length front + length x ≤ i)
    → get_or (front ++ (x ++ back)) i 0 ≡ get_or (front ++ (y ++ back)) i 0
same_outside front x y back i len outside = ⊎_elim
    (λ before. get_or_append_left front (x ++ back) 0 i before ∙ sym (get_or_append_left front (y ++ back) 0 i before))
    (λ behind. in_back front x back i (length x) refl behind ∙ sym (in_back front y back i (length x) (sym len) behind)) outside

pub middles_length : (front x y back : List ℕ) → length x ≡ length y → length (front ++ (x ++ back)) ≡ length (front ++ (y ++ back))
middles_length front x y back len =
    omega (arith, len, length-append front (x ++ back), length-append front (y ++ back), length-append x back, length-append y back)

pub middles_differ : (front x y back : List ℕ) → x ≢ y → front ++ (x ++ back) ≢ front ++ (y ++ back)
middles_differ front x y back different e = different (append_cancel_right x y back (append_cancel_left front (x ++ back) (y ++ back) e))

pub middles-DifferWithin : (places mask : ℕ) (front x y back : List ℕ) → length x ≡ length y → length x ≤ places → x ≢ y
    → AgreeUnder mask x y → DifferWithin places mask (front ++ (x ++ back)) (front ++ (y ++ back))
middles-DifferWithin places mask front x y back len fits different under = record {
  same_length = middles_length front x y back len;
  different = middles_differ front x y back different;
  within = (
    length front,
    λ i outside. same_outside front x y back i len
        (⊎_elim (λ before. inl before) (λ behind. inr (omega (arith, behind, fits))) outside),
  );
  under_mask = λ i. ⊎_elim
      (λ before. ap (λ b. bit_and b mask) (same_outside front x y back i len (inl before)))
      (λ from. ⊎_elim
      (λ below. ap (λ b. bit_and b mask) (in_middle front x back i from below) ∙ under (i - length front)
      ∙ sym (ap (λ b. bit_and b mask) (in_middle front y back i from (omega (arith, below, len)))))
      (λ behind. ap (λ b. bit_and b mask) (same_outside front x y back i len (inr behind)))
      (cases_lt i (length front + length x)))
      (cases_lt i (length front));
}

pub middles-DifferAtOnePlace : (front back : List ℕ) (b c : ℕ) → b ≢ c → DifferAtOnePlace (front ++ b ∷ back) (front ++ c ∷ back)
middles-DifferAtOnePlace front back b c different = record {
  same_length = omega (arith, length-append front (b ∷ back), length-append front (c ∷ back));
  place = (
    length front,
    (λ e. different (sym (get_or-append_seam front b back 0) ∙ e ∙ get_or-append_seam front c back 0)),
    (λ j other. same_outside front (b ∷ []) (c ∷ []) back j refl
        (⊎_elim (λ before. inl before) (λ from. inr (omega (arith, from, other))) (cases_lt j (length front)))),
  );
}
