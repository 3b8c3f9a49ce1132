-- Texts that differ within one group of places alone, as a block.
use Rattle.hash_laws.proofs.WindowCommon.{◌≡◌, ◌≢◌, ◌↔◌, ℕ, ◌+◌, ◌-◌, ◌<◌, ◌≤◌, Bool, IsTrue, nat_eq, List, ◌++◌, length, get_or, take, drop, arith, sym, ap, ◌∙◌, inl, inr, ⊎_elim, length-drop, cases_lt, cases_eq, Decides-eqb, slice_eq-Decides, pointwise, IsFirstDifference, DifferInOne, AgreeFrom}
use Rattle.std.proofs.lemmas.List.{ext_get_or, get_or-drop, take_all}
use Rattle.hash_laws.proofs.FrameLemmas.{middles_differ, middles_length, same_outside}

-- the group of the first difference ends at a place, from which on the texts agree
pub DifferInOne-iff-agree : (group : ℕ → ℕ) (from end : ℕ) (x y : List ℕ) → length x ≡ length y → IsFirstDifference from x y
    → ((i : ℕ) → from ≤ i → i < end → group i ≡ group from) → ((i : ℕ) → end ≤ i → group i ≢ group from)
    → AgreeFrom end x y ↔ DifferInOne group x y
DifferInOne-iff-agree group from end x y len first inside behind = (
  (λ agree. record {
    same_length = len;
    different = λ e. first.differ_there (ap (λ t. get_or t from 0) e);
    one = (
      group from,
      λ i other. ⊎_elim (first.same_before i)
          (λ reached. ⊎_elim (λ below. absurd (other (inside i reached below))) (agree i) (cases_lt i end)) (cases_lt i from),
    );
  }),
  (λ differ i beyond.
      let here : group from ≡ differ.one.0 =
      ⊎_elim (λ e. e) (λ other. absurd (first.differ_there (differ.one.1 from other))) (cases_eq (group from) differ.one.0) in
      differ.one.1 i (λ e. behind i beyond (e ∙ sym here))),
)

-- the answer of `x[place..] == y[place..]`
pub AgreeFrom-iff-eq : (x y : List ℕ) (place : ℕ) (answer : Bool) → length x ≡ length y
    → answer ≡ pointwise nat_eq (take (length x - place) (drop place x)) (take (length y - place) (drop place y))
    → IsTrue answer ↔ AgreeFrom place x y
AgreeFrom-iff-eq x y place answer len eq =
    let same : IsTrue answer ↔ (take (length x - place) (drop place x) ≡ take (length y - place) (drop place y))
    = slice_eq-Decides Decides-eqb _ _ _ eq in
    let all : (z : List ℕ) → take (length z - place) (drop place z) ≡ drop place z
    = λ z. take_all (length z - place) (drop place z) (omega (arith, length-drop place z)) in (
      (λ yes i beyond.
          let e = ap (λ t. get_or t (i - place) 0) (sym (all x) ∙ same.0 yes ∙ all y) in
          let here : place + (i - place) ≡ i = omega arith in
          rw here at (sym (get_or-drop place x (i - place) 0) ∙ e ∙ get_or-drop place y (i - place) 0)),
      (λ agree. same.1 (all x ∙ ext_get_or 0 (drop place x) (drop place y) (omega (arith, len, length-drop place x, length-drop place y))
          (λ i _. get_or-drop place x i 0 ∙ agree (place + i) (omega arith) ∙ sym (get_or-drop place y i 0)) ∙ sym (all y))),
    )

-- two middles of one frame, all of whose places are of one group
abbrev pub middles-DifferInOne : (group : ℕ → ℕ) (front x y back : List ℕ) → length x ≡ length y → x ≢ y
    → ((i : ℕ) → length front ≤ i → i < length front + length x → group i ≡ group (length front))
    → DifferInOne group (front ++ (x ++ back)) (front ++ (y ++ back))
middles-DifferInOne group front x y back len different inside = record {
  same_length = middles_length front x y back len;
  different = middles_differ front x y back different;
  one = (
    group (length front),
    λ i other. ⊎_elim (λ before. same_outside front x y back i len (inl before))
        (λ from. ⊎_elim (λ below. absurd (other (inside i from below))) (λ beyond. same_outside front x y back i len (inr beyond))
        (cases_lt i (length front + length x))) (cases_lt i (length front)),
  );
}
