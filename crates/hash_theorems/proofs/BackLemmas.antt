-- Blocks taken back, and a text with one block in the middle.
use Rattle.hash_theorems.proofs.BlockCommon.{◌≡◌, ◌≢◌, ℕ, ◌+◌, ◌*◌, ◌/◌, ◌%◌, ◌<◌, ◌≤◌, List, ◌++◌, length, take, drop, All, refl, sym, ap, ◌∙◌, arith, length-append, length-drop, ⊎_elim, ap₂, drop-drop, cases_eq, mod_below, All-take, All-drop, Undoes, first_chunks-pieces, part-same, rest-same, folded, told, IsText, IsByte, IsFirstDifference, DifferInOneBlock, blocks, blocks-append, blocks_one, tail-append, tail-lt, pieces, tail, blocks_before, IsBlock, IsLeft, common_steps, nat_tests}
use Rattle.std.proofs.Common.{div-mul-le_self, div-add-mod', take-append-drop, length-take-le}
use Rattle.hash_laws.specs.Exactly.{ExactlyTexts}
use Rattle.hash_laws.proofs.ExactlyLemmas.{Exactly-one}

module _ (n : ℕ) (some : 0 < n) where
  pub pieces-blocks : (t : List ℕ) → IsText t → All (IsBlock n) (pieces n t)
  unfolding pieces
  pieces-blocks t text = first_chunks-pieces n (length t / n) t text (div-mul-le_self (length t) n)

  pub tail-left : (t : List ℕ) → IsText t → IsLeft n (tail n t)
  unfolding tail
  tail-left t text = (All-drop IsByte (length t / n * n) t text, tail-lt n some t)

  pub length-tail : (t : List ℕ) → length (tail n t) ≡ length t % n
  unfolding tail
  length-tail t = omega (arith, length-drop (length t / n * n) t, div-add-mod' (length t) n)

  -- blocks taken back
  pub taken_back : {S : Type 0} {in_range : S → Type 0} {block unblock : S → List ℕ → S}
      → ((b : List ℕ) → IsBlock n b → Undoes in_range in_range (λ s. block s b) (λ s. unblock s b))
      → (t : List ℕ) → IsText t → Undoes in_range in_range (λ s. blocks n block s t) (λ s. blocks_before n unblock s t)
  unfolding blocks blocks_before
  taken_back one t text = folded one (pieces n t) (pieces-blocks t text)

  -- ---- a text with one block in the middle

  module _ {S : Type 0} (block : S → List ℕ → S) (s : S) (front b back : List ℕ) (place : length front % n ≡ 0) (whole : length b ≡ n) where
    count : length front ≡ length front / n * n
    count = omega (arith, div-add-mod' (length front) n)

    once : length b ≡ 1 * n
    once = omega (arith, whole)

    pub framed-blocks : blocks n block s (front ++ (b ++ back)) ≡ blocks n block (block (blocks n block s front) b) back
    framed-blocks =
        blocks-append n some block s front (b ++ back) (length front / n) count
        ∙ blocks-append n some block (blocks n block s front) b back 1 once
        ∙ ap (λ (u : S). blocks n block u back) (blocks_one n some block (blocks n block s front) b whole)

    pub framed-tail : tail n (front ++ (b ++ back)) ≡ tail n back
    framed-tail = tail-append n some front (b ++ back) (length front / n) count ∙ tail-append n some b back 1 once

  pub framed-length : (front b back : List ℕ) → length b ≡ n → length (front ++ (b ++ back)) ≡ length front + n + length back
  framed-length front b back whole = omega (arith, length-append front (b ++ back), length-append b back, whole)

  -- each result has one block, where what leads there can be taken back
  pub one_block : {H : Type 0} {Q : H → Type 0} {f : List ℕ → H} {g : H → List ℕ} → Undoes (IsBlock n) Q f g
      → (h : H) → Q h → ExactlyTexts 1 n (λ b. f b ≡ h)
  one_block {f = f} {g = g} u h h_in =
      let is = u.back_in h h_in in
      Exactly-one (λ b. IsText b × (length b ≡ n) × (f b ≡ h)) (g h) (is.0, is.1, u.there h h_in)
      (λ b known. sym (u.back b (known.0, known.1)) ∙ ap g known.2)

  -- ---- two texts that differ in one whole block

  module _ (x y : List ℕ) (xs : IsText x) (ys : IsText y) (differ : DifferInOneBlock n x y) (whole : differ.one.0 * n + n ≤ length x) where
    abbrev at : ℕ
    at = differ.one.0 * n

    abbrev pub ahead : List ℕ
    ahead = take at x

    abbrev pub behind : List ℕ
    behind = drop (n + at) x

    abbrev part : List ℕ → List ℕ
    part t = take n (drop at t)

    parts : (t : List ℕ) → take at t ++ (part t ++ drop (n + at) t) ≡ t
    parts t =
        ap (λ (d : List ℕ). take at t ++ (part t ++ d)) (sym (drop-drop n at t ∙ ap (λ m. drop m t) (let e : at + n ≡ n + at = omega arith in e)))
        ∙ ap (λ (d : List ℕ). take at t ++ d) (take-append-drop n (drop at t)) ∙ take-append-drop at t

    part-is : (t : List ℕ) → IsText t → length t ≡ length x → IsBlock n (part t)
    part-is t text same =
        (All-take IsByte n (drop at t) (All-drop IsByte at t text), length-take-le n (drop at t) (omega (arith, whole, same, length-drop at t)))

    before-same : ahead ≡ take at y
    before-same =
        part-same at 0 x y differ.same_length (λ i i_in. differ.one.1 (0 + i) (λ (e : (0 + i) / n ≡ differ.one.0).
        let below = rw e at (div-mul-le_self (0 + i) n) in omega (arith, i_in, below)))

    behind-same : behind ≡ drop (n + at) y
    behind-same = grind (arith, nat_tests, common_steps, rest-same, div-add-mod', mod_below)

    pub ahead-is : IsText ahead × (length ahead ≡ at)
    ahead-is = (All-take IsByte at x xs, length-take-le at x (omega (arith, whole)))

    pub behind-is : IsText behind × (length behind + (n + at) ≡ length x)
    behind-is = (All-drop IsByte (n + at) x xs, omega (arith, whole, length-drop (n + at) x))

    pub shows : {H : Type 0} {Q : H → Type 0} (hash : List ℕ → H) {unhash : H → List ℕ}
        → Undoes (IsBlock n) Q (λ b. hash (ahead ++ (b ++ behind))) unhash → hash x ≢ hash y
    shows hash u same =
        let framed : ahead ++ (part y ++ behind) ≡ y =
        ap₂ (λ (f b : List ℕ). f ++ (part y ++ b)) before-same behind-same ∙ parts y in
        let middle : part x ≡ part y =
        told u (part x) (part y) (part-is x xs refl) (part-is y ys (sym differ.same_length))
        (ap hash (parts x) ∙ same ∙ ap hash (sym framed)) in
        differ.different (sym (parts x) ∙ ap (λ (p : List ℕ). ahead ++ (p ++ behind)) middle ∙ framed)

-- the block of the first difference is the one in which they differ
pub block_of_first : (n : ℕ) (x y : List ℕ) (first : ℕ) → IsFirstDifference first x y → (differ : DifferInOneBlock n x y)
    → first / n ≡ differ.one.0
block_of_first n x y first is differ =
    ⊎_elim (λ e. e) (λ other. absurd (is.differ_there (differ.one.1 first other))) (cases_eq (first / n) differ.one.0)
