-- Texts of one length that are filled up with zeros.
use Rattle.hash_jenkins.proofs.Common.{◌≡◌, ◌+◌, ◌-◌, ◌≤◌, ◌++◌, ◌∙◌, ℕ, List, length, slice_index, take, replicate, refl, sym, ap, arith, length-append, append_assoc, take_at, zero_filled}
use Rattle.std.proofs.Common.{lit<, inl, inr, ⊎_elim}
use Rattle.std.proofs.lemmas.Bool.{cases_lt}
use Rattle.std.proofs.lemmas.List.{length-replicate, replicate-append-replicate, get_or_append_left, get_or-append_right}
use Rattle.std.proofs.lemmas.List.Elements.{All-append, All-replicate}
use Rattle.hash_words.proofs.PieceLemmas.{IsPiece}
use Rattle.hash_laws.specs.Text.{IsText}
use Rattle.hash_laws.specs.TextLaws.{IsByte}
use Rattle.hash_laws.proofs.FrameLemmas.{same_outside}

pub length-zero_filled : (n : ℕ) (x : List ℕ) → length x ≤ n → length (zero_filled n x) ≡ n
length-zero_filled n x fits = omega (arith, length-append x (replicate (n - length x) 0), length-replicate {A = ℕ} (n - length x) 0)

pub filled-piece : (n : ℕ) (r : List ℕ) → IsText r → length r ≤ n → IsPiece n (zero_filled n r)
filled-piece n r text few = (
  All-append IsByte r (replicate (n - length r) 0) text (All-replicate IsByte (n - length r) 0 (lit< tt)),
  length-zero_filled n r few,
)

pub filled-same : (n : ℕ) (q r : List ℕ) → length q ≡ length r → zero_filled n q ≡ zero_filled n r → q ≡ r
filled-same n q r len same =
    sym (take_at q _ (length q) refl) ∙ ap (take (length q)) same ∙ take_at r _ (length q) (sym len)

-- a text that is filled up to n bytes, and on
pub zero_filled-longer : (n k : ℕ) (x : List ℕ) → length x ≤ n → zero_filled (n + k) x ≡ zero_filled n x ++ replicate k 0
zero_filled-longer n k x fits =
    let count : n + k - length x ≡ (n - length x) + k = omega arith in
    rw (append_assoc, replicate-append-replicate, count) refl

pub take-zero_filled : (n m : ℕ) (x : List ℕ) → length x ≤ n → n ≤ m → take n (zero_filled m x) ≡ zero_filled n x
take-zero_filled n m x fits le =
    let more : m ≡ n + (m - n) = omega arith in
    ap (λ k. take n (zero_filled k x)) more ∙ ap (take n) (zero_filled-longer n (m - n) x fits)
    ∙ take_at (zero_filled n x) (replicate (m - n) 0) n (length-zero_filled n x fits)

-- between texts that are equal, two of one length agree where they agree by themselves
pub agree_between : (front x y back : List ℕ) (i : ℕ) → length x ≡ length y
    → (length front ≤ i → slice_index x (i - length front) ≡ slice_index y (i - length front))
    → slice_index (front ++ (x ++ back)) i ≡ slice_index (front ++ (y ++ back)) i
agree_between front x y back i len same = ⊎_elim
    (λ before. same_outside front x y back i len (inl before))
    (λ from. ⊎_elim
    (λ below. get_or-append_right front (x ++ back) (length front) i 0 refl from
    ∙ get_or_append_left x back 0 (i - length front) (omega arith) ∙ same from
    ∙ sym (get_or-append_right front (y ++ back) (length front) i 0 refl from
    ∙ get_or_append_left y back 0 (i - length front) (omega arith)))
    (λ behind. same_outside front x y back i len (inr behind)) (cases_lt i (length front + length x))) (cases_lt i (length front))
