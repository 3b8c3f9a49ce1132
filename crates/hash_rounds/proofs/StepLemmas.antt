-- Lists of steps: one list after another, and a list taken back.
use Rattle.hash_rounds.proofs.Common.{◌≡◌, ◌≢◌, ℕ, ◌^◌, ◌<◌, ◌≤◌, nat_lt, ◌&&◌, List, [], ◌∷◌, ◌++◌, length, slice_index, slice_set, fold, map, reverse, IsTrue, refl, sym, ◌∙◌, ap, arith, list_all, flat_map, fold-append, and_parts, nat_tests, All-set, mod_below, pow_pos, xor_lt, rotl, AreWords, Step, Add, Sub, Xor, Rotate, AddRotated, SubRotated, XorRotated, AddData, SubData, step, apply, undo, opposite, are_apart, is_turn, is_step, AreSteps, ◌▷◌, turned_round, likewise, unmoved, xored, added, rotated, rotl-lt, AreWords-from, AreWords-at, no_words}
use Rattle.std.proofs.lemmas.List.{set-set, set-get_or, get_or-set_same, get_or-set_other, map-append, reverse-append, length-set}
use Rattle.hash_words.specs.Undoes.{Undoes, UndoesWords}

-- ---- one list after another

apply-append : (w : ℕ) (ts us : List Step) (d s : List ℕ) → apply w (ts ++ us) d s ≡ apply w us d (apply w ts d s)
unfolding apply
apply-append w [] us d s = refl
apply-append w (t ∷ ts) us d s = apply-append w ts us d (step w d t s)

apply-nil : (w : ℕ) (d s : List ℕ) → apply w [] d s ≡ s
unfolding apply
apply-nil w d s = refl

-- what the first steps give, and then the others
pub apply_then : (w : ℕ) (d s s' r : List ℕ) (ts us : List Step) → s' ≡ apply w ts d s → r ≡ apply w us d s' → r ≡ apply w (ts ++ us) d s
apply_then w d s s' r ts us first others = others ∙ ap (apply w us d) first ∙ sym (apply-append w ts us d s)

undo-nil : (w : ℕ) → undo w [] ≡ []
unfolding undo
undo-nil w = refl

undo-append : (w : ℕ) (ts us : List Step) → undo w (ts ++ us) ≡ undo w us ++ undo w ts
unfolding undo
undo-append w ts us = rw (map-append (opposite w) ts us) (reverse-append (map (opposite w) ts) (map (opposite w) us))

undo-cons : (w : ℕ) (t : Step) (ts : List Step) → undo w (t ∷ ts) ≡ undo w ts ++ opposite w t ∷ []
unfolding undo
undo-cons w t ts = reverse-append (opposite w t ∷ []) (map (opposite w) ts)

-- ---- what a test of a step says

apart_facts : (n x y : ℕ) → IsTrue (are_apart n x y) → (x < n) × (y < n) × (y ≢ x)
apart_facts n x y h = grind (arith, nat_tests)

turn_within : (w k : ℕ) → IsTrue (is_turn w k) → k ≤ w
turn_within w k h = grind (arith, nat_tests)

within : (n x : ℕ) → IsTrue (nat_lt x n) → x < n
within n x h = grind (arith, nat_tests)

-- ---- one step and its opposite

-- n words of w bits
abbrev pub AreNWords : ℕ → ℕ → List ℕ → Type 0
AreNWords w n s = (length s ≡ n) × ((i : ℕ) → slice_index s i < 2 ^ w)

module _ (w n : ℕ) where
  put : (s : List ℕ) (x v : ℕ) → AreNWords w n s → v < 2 ^ w → AreNWords w n (slice_set s x v)
  put s x v s_in v_in =
      (length-set s x v ∙ s_in.0, AreWords-at w (slice_set s x v) (All-set (λ a. a < 2 ^ w) s x v v_in (AreWords-from w s s_in.1)))

  -- a word is changed by what does not change with it, and changed back
  back : (s : List ℕ) (x : ℕ) (o : List ℕ → ℕ) (f g : ℕ → ℕ → ℕ) → x < length s → ((v : ℕ) → o (slice_set s x v) ≡ o s)
      → g (o s) (f (o s) (slice_index s x)) ≡ slice_index s x
      → let s' = slice_set s x (f (o s) (slice_index s x)) in slice_set s' x (g (o s') (slice_index s' x)) ≡ s
  back s x o f g x_in other same =
      let v = f (o s) (slice_index s x) in
      rw (get_or-set_same s x v 0 x_in, other v, same, set-set s x v (slice_index s x)) (set-get_or s x 0)

  changed : (x : ℕ) (o : List ℕ → ℕ) (f g : ℕ → ℕ → ℕ) → x < n → ((s : List ℕ) (v : ℕ) → o (slice_set s x v) ≡ o s)
      → ((s : List ℕ) → AreNWords w n s → UndoesWords w (f (o s)) (g (o s)))
      → Undoes (AreNWords w n) (AreNWords w n) (λ s. slice_set s x (f (o s) (slice_index s x))) (λ s. slice_set s x (g (o s) (slice_index s x)))
  changed x o f g x_in other u = record {
    there_in = λ s s_in. put s x _ s_in ((u s s_in).there_in (slice_index s x) (s_in.1 x));
    back_in = λ s s_in. put s x _ s_in ((u s s_in).back_in (slice_index s x) (s_in.1 x));
    back = λ s s_in. back s x o f g (rw s_in.0 x_in) (other s) ((u s s_in).back (slice_index s x) (s_in.1 x));
    there = λ s s_in. back s x o g f (rw s_in.0 x_in) (other s) ((u s s_in).there (slice_index s x) (s_in.1 x));
  }

  -- by another word, and alone
  by : (x y : ℕ) {f g : ℕ → ℕ → ℕ} → IsTrue (are_apart n x y) → ((b : ℕ) → b < 2 ^ w → UndoesWords w (f b) (g b))
      → Undoes (AreNWords w n) (AreNWords w n) (λ s. slice_set s x (f (slice_index s y) (slice_index s x)))
      (λ s. slice_set s x (g (slice_index s y) (slice_index s x)))
  by x y {f = f} {g = g} apart u =
      let facts = apart_facts n x y apart in
      changed x (λ s. slice_index s y) f g facts.0 (λ s v. get_or-set_other s x y v 0 facts.2) (λ s s_in. u (slice_index s y) (s_in.1 y))

  alone : (x : ℕ) {f g : ℕ → ℕ} → IsTrue (nat_lt x n) → UndoesWords w f g
      → Undoes (AreNWords w n) (AreNWords w n) (λ s. slice_set s x (f (slice_index s x))) (λ s. slice_set s x (g (slice_index s x)))
  alone x {f = f} {g = g} x_in u = changed x (λ s. 0) (λ _. f) (λ _. g) (within n x x_in) (λ s v. refl) (λ s s_in. u)

module _ (w n m : ℕ) (d : List ℕ) where
  -- whatever its data, a step leads from words to words
  step-in : (t : Step) → IsTrue (is_step w n m t) → (s : List ℕ) → AreNWords w n s → AreNWords w n (step w d t s)
  step-in (Add x y) h s s_in = put w n s x _ s_in (mod_below _ (2 ^ w) (pow_pos w))
  step-in (Sub x y) h s s_in = put w n s x _ s_in (mod_below _ (2 ^ w) (pow_pos w))
  step-in (Xor x y) h s s_in = put w n s x _ s_in (xor_lt w _ _ (s_in.1 x) (s_in.1 y))
  step-in (Rotate x k) h s s_in = put w n s x _ s_in (rotl-lt w _ k (turn_within w k (and_parts (nat_lt x n) (is_turn w k) h).1) (s_in.1 x))
  step-in (AddRotated x y k) h s s_in = put w n s x _ s_in (mod_below _ (2 ^ w) (pow_pos w))
  step-in (SubRotated x y k) h s s_in = put w n s x _ s_in (mod_below _ (2 ^ w) (pow_pos w))
  step-in (XorRotated x y k) h s s_in =
      let turn = turn_within w k (and_parts (are_apart n x y) (is_turn w k) h).1 in
      put w n s x _ s_in (xor_lt w _ _ (s_in.1 x) (rotl-lt w _ k turn (s_in.1 y)))
  step-in (AddData x i) h s s_in = put w n s x _ s_in (mod_below _ (2 ^ w) (pow_pos w))
  step-in (SubData x i) h s s_in = put w n s x _ s_in (mod_below _ (2 ^ w) (pow_pos w))

  -- and so do steps
  pub steps-in : (ts : List Step) → AreSteps w n m ts → (s : List ℕ) → AreNWords w n s → AreNWords w n (apply w ts d s)
  unfolding apply
  steps-in [] h s s_in = s_in
  steps-in (t ∷ ts) h s s_in =
      let parts = and_parts (is_step w n m t) (list_all (is_step w n m) ts) h in
      steps-in ts parts.1 (step w d t s) (step-in t parts.0 s s_in)

  module _ (d_in : (i : ℕ) → slice_index d i < 2 ^ w) where
    -- a step and its opposite
    of_step : (t : Step) → IsTrue (is_step w n m t) → Undoes (AreNWords w n) (AreNWords w n) (step w d t) (step w d (opposite w t))
    of_step (Add x y) h = by w n x y h (λ b b_in. added w b b_in)
    of_step (Sub x y) h = by w n x y h (λ b b_in. turned_round (added w b b_in))
    of_step (Xor x y) h = by w n x y h (λ b b_in. xored w b b_in)
    of_step (Rotate x k) h =
        let parts = and_parts (nat_lt x n) (is_turn w k) h in alone w n x parts.0 (rotated w k (turn_within w k parts.1))
    of_step (AddRotated x y k) h =
        let parts = and_parts (are_apart n x y) (is_turn w k) h in
        by w n x y parts.0 (λ b b_in. added w (rotl w b k) (rotl-lt w b k (turn_within w k parts.1) b_in))
    of_step (SubRotated x y k) h =
        let parts = and_parts (are_apart n x y) (is_turn w k) h in
        by w n x y parts.0 (λ b b_in. turned_round (added w (rotl w b k) (rotl-lt w b k (turn_within w k parts.1) b_in)))
    of_step (XorRotated x y k) h =
        let parts = and_parts (are_apart n x y) (is_turn w k) h in
        by w n x y parts.0 (λ b b_in. xored w (rotl w b k) (rotl-lt w b k (turn_within w k parts.1) b_in))
    of_step (AddData x i) h = alone w n x (and_parts (nat_lt x n) (nat_lt i m) h).0 (added w (slice_index d i) (d_in i))
    of_step (SubData x i) h = alone w n x (and_parts (nat_lt x n) (nat_lt i m) h).0 (turned_round (added w (slice_index d i) (d_in i)))

    -- a list of steps, and that of its opposites
    pub of_steps : (ts : List Step) → AreSteps w n m ts → Undoes (AreNWords w n) (AreNWords w n) (apply w ts d) (apply w (undo w ts) d)
    unfolding apply
    of_steps [] h = likewise (λ s _. refl) (λ s _. rw (undo-nil w) refl) unmoved
    of_steps (t ∷ ts) h =
        let parts = and_parts (is_step w n m t) (list_all (is_step w n m) ts) h in
        likewise (λ s _. refl) (λ s _. rw (undo-cons w t ts) (apply-append w (undo w ts) (opposite w t ∷ []) d s))
        (of_step t parts.0 ▷ of_steps ts parts.1)

-- the words stay as many, and stay words
pub apply-words : (w m : ℕ) (ts : List Step) (d s : List ℕ) → AreSteps w (length s) m ts → AreWords w s
    → (length (apply w ts d s) ≡ length s) × AreWords w (apply w ts d s)
apply-words w m ts d s h s_in =
    let kept = steps-in w (length s) m d ts h s (refl, AreWords-at w s s_in) in (kept.0, AreWords-from w (apply w ts d s) kept.1)

-- ---- the steps of a table

-- the steps of a table, row by row
pub apply_rows : {R : Type 0} (w : ℕ) (row : R → List Step) (rows : List R) (d s : List ℕ)
    → apply w (flat_map row rows) d s ≡ fold (λ s' r. apply w (row r) d s') s rows
unfolding apply
apply_rows w row [] d s = refl
apply_rows w row (r ∷ rows) d s =
    apply-append w (row r) (flat_map row rows) d s ∙ apply_rows w row rows d (apply w (row r) d s)

-- the opposites of the steps of a table, from its last row to its first
pub undo_rows : {R : Type 0} (w : ℕ) (row : R → List Step) (rows : List R) (d s : List ℕ)
    → apply w (undo w (flat_map row rows)) d s ≡ fold (λ s' r. apply w (undo w (row r)) d s') s (reverse rows)
undo_rows w row [] d s = rw (undo-nil w, apply-nil w d s) refl
undo_rows w row (r ∷ rows) d s =
    rw (
      undo-append w (row r) (flat_map row rows),
      apply-append w (undo w (flat_map row rows)) (undo w (row r)) d s,
      undo_rows w row rows
          d s,
      reverse-append (r ∷ []) rows,
      fold-append _ s (reverse rows) (r ∷ []),
    ) refl

-- ---- steps that read no data

no_datum : (x n i : ℕ) → IsTrue (nat_lt x n && nat_lt i 0) → ⊥
no_datum x n i h = let parts = and_parts (nat_lt x n) (nat_lt i 0) h in grind (arith, nat_tests)

step-data : (w n : ℕ) (d e s : List ℕ) (t : Step) → IsTrue (is_step w n 0 t) → step w d t s ≡ step w e t s
step-data w n d e s (Add x y) h = refl
step-data w n d e s (Sub x y) h = refl
step-data w n d e s (Xor x y) h = refl
step-data w n d e s (Rotate x k) h = refl
step-data w n d e s (AddRotated x y k) h = refl
step-data w n d e s (SubRotated x y k) h = refl
step-data w n d e s (XorRotated x y k) h = refl
step-data w n d e s (AddData x i) h = absurd (no_datum x n i h)
step-data w n d e s (SubData x i) h = absurd (no_datum x n i h)

-- such steps do the same with any data
pub apply-data : (w n : ℕ) (d e : List ℕ) (ts : List Step) (s : List ℕ) → AreSteps w n 0 ts → apply w ts d s ≡ apply w ts e s
unfolding apply
apply-data w n d e [] s h = refl
apply-data w n d e (t ∷ ts) s h =
    let parts = and_parts (is_step w n 0 t) (list_all (is_step w n 0) ts) h in
    ap (apply w ts d) (step-data w n d e s t parts.0) ∙ apply-data w n d e ts (step w e t s) parts.1

-- ---- a call that makes a round

-- A call that makes the rows of a table one by one makes the table's steps, and their opposites take them
-- back; and the other way round.
module _ {R : Type 0} {n m : ℕ} (w : ℕ) (row : R → List Step) (rows : List R) (d s s' : List ℕ)
    (d_len : length d ≡ m) (d_fits : (i : ℕ) → slice_index d i < 2 ^ w)
    (s_len : length s ≡ n) (s_fits : (i : ℕ) → slice_index s i < 2 ^ w) (are : AreSteps w n m (flat_map row rows)) where
  table : Undoes (AreNWords w n) (AreNWords w n) (apply w (flat_map row rows) d) (apply w (undo w (flat_map row rows)) d)
  table = of_steps w n m d d_fits (flat_map row rows) are

  pub rows_made : s' ≡ fold (λ t r. apply w (row r) d t) s rows
      → (s' ≡ apply w (flat_map row rows) d s) × (apply w (undo w (flat_map row rows)) d s' ≡ s)
  rows_made made = let round = made ∙ sym (apply_rows w row rows d s) in (round, rw round (table.back s (s_len, s_fits)))

  pub rows_unmade : s' ≡ fold (λ t r. apply w (undo w (row r)) d t) s (reverse rows)
      → (s' ≡ apply w (undo w (flat_map row rows)) d s) × (apply w (flat_map row rows) d s' ≡ s)
  rows_unmade made = let round = made ∙ sym (undo_rows w row rows d s) in (round, rw round (table.there s (s_len, s_fits)))

-- the same, of rows that read no data
module _ {R : Type 0} {n : ℕ} (w : ℕ) (row : R → List Step) (rows : List R) (s s' : List ℕ)
    (s_len : length s ≡ n) (s_fits : (i : ℕ) → slice_index s i < 2 ^ w) (are : AreSteps w n 0 (flat_map row rows)) where
  pub made : s' ≡ fold (λ t r. apply w (row r) [] t) s rows
      → (s' ≡ apply w (flat_map row rows) [] s) × (apply w (undo w (flat_map row rows)) [] s' ≡ s)
  made = rows_made w row rows [] s s' refl (no_words w) s_len s_fits are

  pub unmade : s' ≡ fold (λ t r. apply w (undo w (row r)) [] t) s (reverse rows)
      → (s' ≡ apply w (undo w (flat_map row rows)) [] s) × (apply w (flat_map row rows) [] s' ≡ s)
  unmade = rows_unmade w row rows [] s s' refl (no_words w) s_len s_fits are
