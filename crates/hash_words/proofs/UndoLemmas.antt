-- Functions that undo one another: one after the other, over lists, and those that mixes are made of.
use Rattle.hash_words.proofs.Common.{◌≡◌, ℕ, zero, suc, ◌+◌, ◌-◌, ◌*◌, ◌%◌, ◌^◌, ◌<◌, ◌≤◌, List, [], ◌∷◌, fold, reverse, All, bit_xor, refl, sym, ap, ◌∙◌, add_comm, arith, mod-add-mod, mod-eq_of_lt, mul-one, mul_assoc, mul_comm, reverse-append, All-head, All-tail, mod_below, mul-mod_first, mul-mod_second, pow_pos, xor_lt, xor_comm, rotl, add, sub, xorshift, Undoes, UndoesWords, pow-succ', fold-append}
use Rattle.hash_words.proofs.WordLemmas.{rotl-lt, rotl-rotl, add-sub, sub-add}
use Rattle.hash_words.proofs.XorLemmas.{xor_twice}
use Rattle.hash_words.proofs.XorshiftLemmas.{xorshift-lt, xorshift-more, xorshift-past, xorshift-swap}

-- ---- one after the other

infixr 30 ◌▷◌
pub ◌▷◌ : {A B C : Type 0} {P : A → Type 0} {Q : B → Type 0} {R : C → Type 0} {f : A → B} {g : B → A} {h : B → C} {k : C → B}
    → Undoes P Q f g → Undoes Q R h k → Undoes P R (λ x. h (f x)) (λ z. g (k z))
◌▷◌ {f = f} {g = g} {h = h} {k = k} first next = record {
  there_in = λ x x_in. next.there_in (f x) (first.there_in x x_in);
  back_in = λ z z_in. first.back_in (k z) (next.back_in z z_in);
  back = λ x x_in. ap g (next.back (f x) (first.there_in x x_in)) ∙ first.back x x_in;
  there = λ z z_in. ap h (first.there (k z) (next.back_in z z_in)) ∙ next.there z z_in;
}

module _ {A B : Type 0} {P : A → Type 0} {Q : B → Type 0} {f : A → B} {g : B → A} where
  -- the other way round
  pub turned_round : Undoes P Q f g → Undoes Q P g f
  turned_round u = record { there_in = u.back_in; back_in = u.there_in; back = u.there; there = u.back }

  -- functions equal to them do so too
  pub likewise : {h : A → B} {k : B → A} → ((x : A) → P x → h x ≡ f x) → ((y : B) → Q y → k y ≡ g y)
      → Undoes P Q f g → Undoes P Q h k
  likewise {h = h} {k = k} e d u = record {
    there_in = λ x x_in. rw (e x x_in) (u.there_in x x_in);
    back_in = λ y y_in. rw (d y y_in) (u.back_in y y_in);
    back = λ x x_in. d (h x) (rw (e x x_in) (u.there_in x x_in)) ∙ ap g (e x x_in) ∙ u.back x x_in;
    there = λ y y_in. e (k y) (rw (d y y_in) (u.back_in y y_in)) ∙ ap f (d y y_in) ∙ u.there y y_in;
  }

  -- what leads to one result is one
  pub told : Undoes P Q f g → (x y : A) → P x → P y → f x ≡ f y → x ≡ y
  told u x y x_in y_in same = sym (u.back x x_in) ∙ ap g same ∙ u.back y y_in

  -- and is known by the result
  pub solved : Undoes P Q f g → (x : A) (y : B) → P x → f x ≡ y → x ≡ g y
  solved u x y x_in e = sym (u.back x x_in) ∙ ap g e

  -- what g finds leads to a result, and nothing else does
  pub found : Undoes P Q f g → (y : B) → Q y → (x : A) → x ≡ g y → f x ≡ y
  found u y y_in x is = ap f is ∙ u.there y y_in

  pub found_alone : Undoes P Q f g → (y : B) (x : A) → x ≡ g y → (z : A) → P z → f z ≡ y → z ≡ x
  found_alone u y x is z z_in led = sym (u.back z z_in) ∙ ap g led ∙ sym is

pub unmoved : {A : Type 0} {P : A → Type 0} → Undoes P P (λ x. x) (λ x. x)
unmoved = record { there_in = λ x x_in. x_in; back_in = λ x x_in. x_in; back = λ x x_in. refl; there = λ x x_in. refl }

-- a function is undone where it is so twice over
pub rooted : {A : Type 0} {P : A → Type 0} {f h k : A → A} → ((x : A) → P x → P (f x)) → ((x : A) → P x → f (f x) ≡ h x)
    → Undoes P P h k → Undoes P P f (λ y. k (f y))
rooted {A = A} {P = P} {f = f} {h = h} {k = k} f_in twice u =
    let back : (x : A) → P x → k (f (f x)) ≡ x = λ x x_in. ap k (twice x x_in) ∙ u.back x x_in in
    record {
      there_in = f_in;
      back_in = λ y y_in. u.back_in (f y) (f_in y y_in);
      back = back;
      there = λ y y_in.
          let x_in = u.back_in (f y) (f_in y y_in) in
          sym (back (f (k (f y))) (f_in _ x_in)) ∙ ap (λ z. k (f z)) (twice _ x_in ∙ u.there (f y) (f_in y y_in)) ∙ back y y_in;
    }

-- of a pair, both, and one by the other
module _ {A B : Type 0} {P : A → Type 0} {Q : B → Type 0} where
  pub both : {C D : Type 0} {R : C → Type 0} {T : D → Type 0} {f : A → C} {g : C → A} {h : B → D} {k : D → B} → Undoes P R f g → Undoes Q T h k
      → Undoes (λ (p : A × B). P p.0 × Q p.1) (λ (q : C × D). R q.0 × T q.1) (λ p. (f p.0, h p.1)) (λ q. (g q.0, k q.1))
  both u v = record {
    there_in = λ p p_in. (u.there_in p.0 p_in.0, v.there_in p.1 p_in.1);
    back_in = λ q q_in. (u.back_in q.0 q_in.0, v.back_in q.1 q_in.1);
    back = λ p p_in. λ i. (u.back p.0 p_in.0 i, v.back p.1 p_in.1 i);
    there = λ q q_in. λ i. (u.there q.0 q_in.0 i, v.there q.1 q_in.1 i);
  }

  pub on_first : {C : Type 0} {R : C → Type 0} {f : A → B → C} {g : C → B → A} → ((b : B) → Q b → Undoes P R (λ a. f a b) (λ c. g c b))
      → Undoes (λ (p : A × B). P p.0 × Q p.1) (λ (q : C × B). R q.0 × Q q.1) (λ p. (f p.0 p.1, p.1)) (λ q. (g q.0 q.1, q.1))
  on_first u = record {
    there_in = λ p p_in. ((u p.1 p_in.1).there_in p.0 p_in.0, p_in.1);
    back_in = λ q q_in. ((u q.1 q_in.1).back_in q.0 q_in.0, q_in.1);
    back = λ p p_in. λ i. ((u p.1 p_in.1).back p.0 p_in.0 i, p.1);
    there = λ q q_in. λ i. ((u q.1 q_in.1).there q.0 q_in.0 i, q.1);
  }

  pub on_second : {D : Type 0} {T : D → Type 0} {f : B → A → D} {g : D → A → B} → ((a : A) → P a → Undoes Q T (λ b. f b a) (λ d. g d a))
      → Undoes (λ (p : A × B). P p.0 × Q p.1) (λ (q : A × D). P q.0 × T q.1) (λ p. (p.0, f p.1 p.0)) (λ q. (q.0, g q.1 q.0))
  on_second u = record {
    there_in = λ p p_in. (p_in.0, (u p.0 p_in.0).there_in p.1 p_in.1);
    back_in = λ q q_in. (q_in.0, (u q.0 q_in.0).back_in q.1 q_in.1);
    back = λ p p_in. λ i. (p.0, (u p.0 p_in.0).back p.1 p_in.1 i);
    there = λ q q_in. λ i. (q.0, (u q.0 q_in.0).there q.1 q_in.1 i);
  }

-- over a list, and from its end to its start
module _ {S A : Type 0} {is_item : A → Type 0} {in_range : S → Type 0} {f g : S → A → S}
    (one : (a : A) → is_item a → Undoes in_range in_range (λ s. f s a) (λ s. g s a)) where
  pub folded : (items : List A) → All is_item items → Undoes in_range in_range (λ s. fold f s items) (λ s. fold g s (reverse items))
  folded [] are = unmoved
  folded (a ∷ items) are =
      likewise (λ s _. refl) (λ s _. ap (fold g s) (reverse-append (a ∷ []) items) ∙ fold-append g s (reverse items) (a ∷ []))
      (one a (All-head is_item a items are) ▷ folded items (All-tail is_item a items are))

-- ---- what mixes are made of

module _ (w k : ℕ) (k_in : k < 2 ^ w) where
  pub xored : UndoesWords w (λ x. bit_xor x k) (λ x. bit_xor x k)
  xored = record {
    there_in = λ x x_in. xor_lt w x k x_in k_in;
    back_in = λ x x_in. xor_lt w x k x_in k_in;
    back = λ x _. xor_twice x k;
    there = λ x _. xor_twice x k;
  }

  pub xored_onto : UndoesWords w (bit_xor k) (bit_xor k)
  xored_onto = likewise (λ x _. xor_comm k x) (λ x _. xor_comm k x) xored

  pub added : UndoesWords w (λ x. add w x k) (λ x. sub w x k)
  added = record {
    there_in = λ x x_in. mod_below _ (2 ^ w) (pow_pos w);
    back_in = λ x x_in. mod_below _ (2 ^ w) (pow_pos w);
    back = λ x x_in. sub-add w x k x_in k_in;
    there = λ x x_in. add-sub w x k x_in k_in;
  }

  pub added_onto : UndoesWords w (add w k) (λ x. sub w x k)
  added_onto = likewise (λ x _. ap (λ n. n % 2 ^ w) (add_comm k x)) (λ x _. refl) added

pub rotated : (w k : ℕ) → k ≤ w → UndoesWords w (λ x. rotl w x k) (λ x. rotl w x (w - k))
rotated w k within =
    let twice : w - (w - k) ≡ k = omega arith in
    record {
      there_in = λ x x_in. rotl-lt w x k within x_in;
      back_in = λ x x_in. rotl-lt w x (w - k) (omega arith) x_in;
      back = λ x x_in. rotl-rotl w x k within x_in;
      there = λ x x_in. ap (rotl w (rotl w x (w - k))) (sym twice) ∙ rotl-rotl w x (w - k) (omega arith) x_in;
    }

-- a product by an odd number is undone by that by another
pub unmultiplied : (w m n x : ℕ) → m * n % 2 ^ w ≡ 1 → x < 2 ^ w → x * m % 2 ^ w * n % 2 ^ w ≡ x
unmultiplied w m n x unit x_in =
    mul-mod_first (x * m) n (2 ^ w) ∙ ap (λ k. k % 2 ^ w) (mul_assoc x m n) ∙ sym (mul-mod_second x (m * n) (2 ^ w))
    ∙ ap (λ k. x * k % 2 ^ w) unit ∙ ap (λ k. k % 2 ^ w) (mul-one x) ∙ mod-eq_of_lt x_in

pub multiplied : (w m n : ℕ) → m * n % 2 ^ w ≡ 1 → UndoesWords w (λ x. x * m % 2 ^ w) (λ x. x * n % 2 ^ w)
multiplied w m n unit = record {
  there_in = λ x x_in. mod_below _ (2 ^ w) (pow_pos w);
  back_in = λ x x_in. mod_below _ (2 ^ w) (pow_pos w);
  back = λ x x_in. unmultiplied w m n x unit x_in;
  there = λ x x_in. unmultiplied w n m x (ap (λ k. k % 2 ^ w) (mul_comm n m) ∙ unit) x_in;
}

pub multiplied_onto : (w m n : ℕ) → m * n % 2 ^ w ≡ 1 → UndoesWords w (λ x. m * x % 2 ^ w) (λ x. x * n % 2 ^ w)
multiplied_onto w m n unit = likewise (λ x _. ap (λ k. k % 2 ^ w) (mul_comm m x)) (λ x _. refl) (multiplied w m n unit)

-- and with a number added
pub multiplied_added : (w m n c : ℕ) → m * n % 2 ^ w ≡ 1 → c < 2 ^ w
    → UndoesWords w (λ x. (x * m + c) % 2 ^ w) (λ x. (x + (2 ^ w - c)) * n % 2 ^ w)
multiplied_added w m n c unit c_in =
    likewise (λ x _. sym (mod-add-mod (x * m) (2 ^ w) c)) (λ x _. sym (mul-mod_first (x + (2 ^ w - c)) n (2 ^ w)))
    (multiplied w m n unit ▷ added w c c_in)

-- a shift is undone by itself and shifts by twice as much, four times as much and so on
abbrev pub shifts : ℕ → ℕ → ℕ → ℕ
shifts zero k x = x
shifts (suc n) k x = shifts n (k * 2) (xorshift x k)

shifts-lt : (w n k x : ℕ) → x < 2 ^ w → shifts n k x < 2 ^ w
shifts-lt w zero k x x_in = x_in
shifts-lt w (suc n) k x x_in = shifts-lt w n (k * 2) (xorshift x k) (xorshift-lt w x k x_in)

shifts-swap : (n j k x : ℕ) → shifts n j (xorshift x k) ≡ xorshift (shifts n j x) k
shifts-swap zero j k x = refl
shifts-swap (suc n) j k x = ap (shifts n (j * 2)) (xorshift-swap x k j) ∙ shifts-swap n (j * 2) k (xorshift x j)

shifts-all : (n k x : ℕ) → shifts n k (xorshift x k) ≡ xorshift x (k * 2 ^ n)
shifts-all zero k x = ap (xorshift x) (omega arith)
shifts-all (suc n) k x =
    ap (shifts n (k * 2)) (xorshift-more x x k k refl) ∙ shifts-all n (k * 2) x ∙ ap (xorshift x) (rw pow-succ' (mul_assoc k 2 (2 ^ n)))

pub shifted_by : (n w k : ℕ) → w ≤ k * 2 ^ n → UndoesWords w (λ x. xorshift x k) (shifts n k)
shifted_by n w k far =
    let all = λ (x : ℕ) (x_in : x < 2 ^ w). shifts-all n k x ∙ xorshift-past w x (k * 2 ^ n) x_in far in
    record {
      there_in = λ x x_in. xorshift-lt w x k x_in;
      back_in = λ x x_in. shifts-lt w n k x x_in;
      back = all;
      there = λ x x_in. sym (shifts-swap n k k x) ∙ all x x_in;
    }

-- a shift by half of the width or more, and one by a quarter or more
pub shifted : (w k : ℕ) → w ≤ k * 2 → UndoesWords w (λ x. xorshift x k) (λ x. xorshift x k)
shifted w k half = shifted_by 1 w k half

pub shifted_less : (w k : ℕ) → w ≤ k * 4 → UndoesWords w (λ x. xorshift x k) (λ x. xorshift (xorshift x k) (k * 2))
shifted_less w k quarter = shifted_by 2 w k quarter
