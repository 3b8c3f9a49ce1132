-- Whether two lists of pieces differ at exactly one byte, from the pieces that are left.
use Rattle.hash_fx.proofs.Common.{◌≡◌, ℕ, ◌+◌, ◌<◌, List, [], ◌∷◌, ◌++◌, length, drop, arith, refl, sym, ◌∙◌, subst, ap₂, drop_all}
use Rattle.std.proofs.Common.{◌≢◌, ◌↔◌, ◌≤◌, Bool, true, false, not, nat_eq, IsTrue, Bor, get_or, inl, inr, MatchBool}
use Rattle.std.proofs.lemmas.Bool.{not-false}
use Rattle.std.proofs.lemmas.List.{drop_more}
use Rattle.hash_laws.specs.Text.{joined}
use Rattle.hash_fx.specs.Pieces.{DifferByOneByte}
use Rattle.std.specs.Cmp.Lexicographic.{pointwise}
use Rattle.std.proofs.lemmas.Bool.Decides.{Decides-eqb}
use Rattle.std.proofs.lemmas.Slice.Eq.{slice_eq-Decides}
use Rattle.hash_fx.proofs.CutsLemmas.{Pieces, SameCuts, SameCuts-at, SameCuts-length}
use Rattle.hash_fx.proofs.OneApart.{OneApart, OneApart-split, OneApart-itself, OneApart-append_left, OneApart-append_right, append_same, one_from_DifferAtOnePlace, DifferAtOnePlace-from_one}

-- of the pieces that are left none may differ where one did, and else one must
abbrev pub RestApart : Bool → Pieces → Pieces → Type 0
RestApart apart x y = MatchBool apart (joined x ≡ joined y) (OneApart (joined x) (joined y))

module _ (p q : Bor (List ℕ)) (x y : Pieces) (len : length p.now ≡ length q.now) where
  equal_front : (apart : Bool) → p.now ≡ q.now → RestApart apart (p ∷ x) (q ∷ y) → RestApart apart x y
  equal_front true same rest = (append_same p.now q.now (joined x) (joined y) len rest).1
  equal_front false same rest = elim (OneApart-split p.now q.now (joined x) (joined y) len rest) [
    | inl front ↦ absurd (OneApart-itself p.now (subst (OneApart p.now) (sym same) front.0))
    | inr back ↦ back.1
  ]

  equal_back : (apart : Bool) → p.now ≡ q.now → RestApart apart x y → RestApart apart (p ∷ x) (q ∷ y)
  equal_back true same rest = ap₂ (λ s t. s ++ t) same rest
  equal_back false same rest = subst (λ t. OneApart (p.now ++ joined x) (t ++ joined y)) same
      (OneApart-append_right p.now (joined x) (joined y) rest)

  -- a piece that is the same
  pub RestApart-equal : (apart : Bool) → p.now ≡ q.now → RestApart apart (p ∷ x) (q ∷ y) ↔ RestApart apart x y
  RestApart-equal apart same = (equal_front apart same, equal_back apart same)

  -- the first piece that differs
  pub RestApart-first : OneApart p.now q.now → RestApart false (p ∷ x) (q ∷ y) ↔ RestApart true x y
  RestApart-first one = (
    (λ rest. elim (OneApart-split p.now q.now (joined x) (joined y) len rest) [
      | inl front ↦ front.1
      | inr back ↦ absurd (OneApart-itself p.now (subst (OneApart p.now) (sym back.0) one))
    ]),
    (λ rest. OneApart-append_left p.now q.now (joined x) (joined y) one rest),
  )

  -- a second piece that differs
  pub RestApart-second : p.now ≢ q.now → RestApart true (p ∷ x) (q ∷ y) → ⊥
  RestApart-second ne rest = ne (append_same p.now q.now (joined x) (joined y) len rest).0

  -- a piece that differs at more than one byte
  pub RestApart-many : p.now ≢ q.now → (OneApart p.now q.now → ⊥) → RestApart false (p ∷ x) (q ∷ y) → ⊥
  RestApart-many ne many rest = elim (OneApart-split p.now q.now (joined x) (joined y) len rest) [
    | inl front ↦ many front.0
    | inr back ↦ ne back.0
  ]

-- ---- one turn of the loop, over which a fact is the same as what is left

module _ (P : Type 0) (x y : Pieces) (i : ℕ) (d : Bor (List ℕ)) (cuts : SameCuts x y) (below : i < length x) where
  at_turn : (apart : Bool) → P ↔ RestApart apart (drop i x) (drop i y)
      → P ↔ RestApart apart (get_or x i d ∷ drop (i + 1) x) (get_or y i d ∷ drop (i + 1) y)
  at_turn apart left =
      let also : i < length y = omega (arith, SameCuts-length x y cuts) in
      rw (drop_more x i d below, drop_more y i d also) at left

  pub left_equal : (apart : Bool) → (get_or x i d).now ≡ (get_or y i d).now → P ↔ RestApart apart (drop i x) (drop i y)
      → P ↔ RestApart apart (drop (i + 1) x) (drop (i + 1) y)
  left_equal apart same left =
      let turn = at_turn apart left in
      let step = RestApart-equal (get_or x i d) (get_or y i d) (drop (i + 1) x) (drop (i + 1) y) (SameCuts-at x y i d cuts below)
      apart same in
      ((λ p. step.0 (turn.0 p)), λ rest. turn.1 (step.1 rest))

  pub left_first : (apart : Bool) → apart ≡ false → OneApart (get_or x i d).now (get_or y i d).now
      → P ↔ RestApart apart (drop i x) (drop i y)
      → P ↔ RestApart true (drop (i + 1) x) (drop (i + 1) y)
  left_first true none one left = cc
  left_first false none one left =
      let turn = at_turn false left in
      let step = RestApart-first (get_or x i d) (get_or y i d) (drop (i + 1) x) (drop (i + 1) y) (SameCuts-at x y i d cuts below) one in
      ((λ p. step.0 (turn.0 p)), λ rest. turn.1 (step.1 rest))

  pub left_second : (apart : Bool) → apart ≡ true → (get_or x i d).now ≢ (get_or y i d).now
      → P ↔ RestApart apart (drop i x) (drop i y) → P → ⊥
  left_second true some ne left =
      λ p. RestApart-second (get_or x i d) (get_or y i d) (drop (i + 1) x) (drop (i + 1) y) (SameCuts-at x y i d cuts below) ne
      ((at_turn true left).0 p)
  left_second false some ne left = cc

  pub left_many : (apart : Bool) → apart ≡ false → (get_or x i d).now ≢ (get_or y i d).now
      → (OneApart (get_or x i d).now (get_or y i d).now → ⊥)
      → P ↔ RestApart apart (drop i x) (drop i y) → P → ⊥
  left_many true none ne many left = cc
  left_many false none ne many left =
      λ p. RestApart-many (get_or x i d) (get_or y i d) (drop (i + 1) x) (drop (i + 1) y) (SameCuts-at x y i d cuts below) ne many
      ((at_turn false left).0 p)

-- no pieces are left
at_end : (P : Type 0) (apart : Bool) → P ↔ RestApart apart [] [] → IsTrue apart ↔ P
at_end P true left = ((λ _. left.1 refl), λ _. refl)
at_end P false left = ((λ (e : false ≡ true). cc), λ p. absurd (left.0 p))

pub left_none : (P : Type 0) (x y : Pieces) (i : ℕ) → SameCuts x y → length x ≤ i → (apart : Bool)
    → P ↔ RestApart apart (drop i x) (drop i y) → IsTrue apart ↔ P
left_none P x y i cuts x_end apart left =
    at_end P apart (rw (drop_all i x x_end, drop_all i y (omega (arith, SameCuts-length x y cuts))) at left)

-- ---- what the tests say

pub DifferByOneByte-iff : (x y : Pieces) → SameCuts x y → OneApart (joined x) (joined y) ↔ DifferByOneByte x y
DifferByOneByte-iff x y cuts = (
  (λ one. record { same_cuts = cuts; one_byte = DifferAtOnePlace-from_one (joined x) (joined y) one }),
  λ d. one_from_DifferAtOnePlace (joined x) (joined y) d.one_byte,
)

pub pieces_equal : (p q : List ℕ) (r : Bool) → r ≡ not (pointwise nat_eq p q) → r ≡ false → p ≡ q
pieces_equal p q r is same = (slice_eq-Decides Decides-eqb p q (pointwise nat_eq p q) refl).0
    (not-false (pointwise nat_eq p q) (sym is ∙ same))

pub pieces_differ : (p q : List ℕ) (r : Bool) → r ≡ not (pointwise nat_eq p q) → r ≡ true → p ≢ q
pieces_differ p q r is differ = λ same. let equal = (slice_eq-Decides Decides-eqb p q (pointwise nat_eq p q) refl).1 same in cc
