-- A window, by the first place at which the texts differ.
use Rattle.hash_laws.proofs.WindowCommon.{◌≡◌, ◌≢◌, ◌↔◌, ℕ, Bool, IsTrue, nat_eq, ◌+◌, ◌-◌, ◌<◌, List, length, get_or, take, drop, arith, sym, ap, ◌∙◌, inl, inr, ⊎_elim, length-drop, cases_lt, cases_eq, and_le_r, Decides-eqb, slice_eq-Decides, pointwise, DifferWithin, AgreeUnder, IsFirstDifference, DifferAtOnePlace}
use Rattle.std.proofs.Common.{ext_get_or, get_or-drop, take_all}

-- `&x[k..]`
slice_from : (x : List ℕ) (k : ℕ) → take (length x - k) (drop k x) ≡ drop k x
slice_from x k = take_all (length x - k) (drop k x) (omega (arith, length-drop k x))

-- the window can begin at the first difference, and then all is said by the texts behind it
pub DifferWithin-iff-drop : (places mask from : ℕ) (x y : List ℕ) → length x ≡ length y → AgreeUnder mask x y → IsFirstDifference from x y
    → DifferWithin places mask x y ↔ (drop (from + places) x ≡ drop (from + places) y)
DifferWithin-iff-drop places mask from x y len under first = (
  (λ window. ext_get_or 0 (drop (from + places) x) (drop (from + places) y)
      (omega (arith, length-drop (from + places) x, length-drop (from + places) y))
      (λ i _. get_or-drop (from + places) x i 0
      ∙ window.within.1 (from + places + i) (inr (
      let not_after : (from < window.within.0) → ⊥ = λ p. first.differ_there (window.within.1 from (inl p)) in
      omega arith))
      ∙ sym (get_or-drop (from + places) y i 0))),
  (λ same. record {
    same_length = len;
    different = λ e. first.differ_there (ap (λ t. get_or t from 0) e);
    within = (
      from,
      λ i outside. ⊎_elim (first.same_before i) (λ p.
          let e = ap (λ t. get_or t (i - (from + places)) 0) same in
          let here : from + places + (i - (from + places)) ≡ i = omega arith in
          rw here at (sym (get_or-drop (from + places) x (i - (from + places)) 0) ∙ e
          ∙ get_or-drop (from + places) y (i - (from + places)) 0)) outside,
    );
    under_mask = under;
  }),
)

-- the same, of what `x[from + places..] == y[from + places..]` answers
pub DifferWithin-iff-eq : (places mask from : ℕ) (x y : List ℕ) (answer : Bool) → length x ≡ length y → AgreeUnder mask x y
    → IsFirstDifference from x y
    → answer ≡ pointwise nat_eq (take (length x - (from + places)) (drop (from + places) x))
    (take (length y - (from + places)) (drop (from + places) y))
    → IsTrue answer ↔ DifferWithin places mask x y
DifferWithin-iff-eq places mask from x y answer len under first eq =
    let window = DifferWithin-iff-drop places mask from x y len under first in
    let same = slice_eq-Decides Decides-eqb _ _ _ eq in (
      (λ t. window.1 (sym (slice_from x (from + places)) ∙ same.0 t ∙ slice_from y (from + places))),
      (λ w. same.1 (slice_from x (from + places) ∙ window.0 w ∙ sym (slice_from y (from + places)))),
    )

-- one place is a window of one place, under no mask
pub one_place_window : (x y : List ℕ) → DifferAtOnePlace x y → DifferWithin 1 0 x y
one_place_window x y d = record {
  same_length = d.same_length;
  different = λ e. d.place.1 (ap (λ t. get_or t d.place.0 0) e);
  within = (d.place.0, λ j p. d.place.2 j (⊎_elim (λ q. omega arith) (λ q. omega arith) p));
  under_mask = λ i. omega (arith, and_le_r (get_or x i 0) 0, and_le_r (get_or y i 0) 0);
}

DifferWithin-one_place : (x y : List ℕ) → DifferWithin 1 0 x y → DifferAtOnePlace x y
DifferWithin-one_place x y w =
    let from = w.within.0 in
    let elsewhere : (j : ℕ) → j ≢ from → get_or x j 0 ≡ get_or y j 0 =
    λ j ne. w.within.1 j (⊎_elim (λ q. inl q) (λ q. inr (omega arith)) (cases_lt j from)) in
    record {
      same_length = w.same_length;
      place = (
        from,
        (λ e. w.different (ext_get_or 0 x y w.same_length
            (λ j _. ⊎_elim (λ (q : j ≡ from). ap (λ k. get_or x k 0) q ∙ e ∙ ap (λ k. get_or y k 0) (sym q)) (elsewhere j)
            (cases_eq j from)))),
        elsewhere,
      );
    }

pub DifferWithin-iff-one : (x y : List ℕ) (answer : Bool) → (IsTrue answer ↔ DifferWithin 1 0 x y) → IsTrue answer ↔ DifferAtOnePlace x y
DifferWithin-iff-one x y answer window = ((λ t. DifferWithin-one_place x y (window.0 t)), λ d. window.1 (one_place_window x y d))
