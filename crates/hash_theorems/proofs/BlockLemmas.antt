-- What follows for a hash by the block that loses nothing: one block leads to each hash, and one changed block shows.
use Rattle.hash_theorems.proofs.BlockCommon.{◌≡◌, ◌≢◌, ℕ, ◌+◌, ◌*◌, ◌/◌, ◌%◌, ◌<◌, List, ◌++◌, length, drop, fold, refl, sym, ap, ◌∙◌, arith, mul-add-div_right, mod_below, div-mul-add, first_chunks, Undoes, texts-same, part-same, rest-same, ◌▷◌, told, likewise, IsText, DifferInOneBlock, blocks, pieces, tail, blocks_before, BlockFacts, IsBlock}
use Rattle.std.proofs.Math.Nat.{div-mul-le_self, div-add-mod'}
use Rattle.hash_theorems.proofs.BackLemmas.{tail-left, framed-blocks, framed-tail, framed-length, taken_back}

module _ {S H : Type 0} {n : ℕ} (some : 0 < n) {is_seed : List ℕ → Type 0} {in_range : S → Type 0} {is_answer : H → Type 0}
    {start : List ℕ → S} {block : S → List ℕ → S} {finish : S → List ℕ → ℕ → H}
    {unblock : S → List ℕ → S} {between : S → S → List ℕ} {unfinish : H → List ℕ → ℕ → S}
    (facts : BlockFacts n is_seed in_range is_answer start block finish unblock between unfinish)
    (hash : List ℕ → List ℕ → H)
    (is_hash : (from text : List ℕ) → hash from text ≡ finish (blocks n block (start from) text) (tail n text) (length text)) where
  -- one block in the middle, and the hash
  pub framed : (from front back : List ℕ) → is_seed from → IsText front → IsText back → length front % n ≡ 0
      → Undoes (IsBlock n) is_answer (λ b. hash from (front ++ (b ++ back)))
      (λ h. between (blocks n block (start from) front)
      (blocks_before n unblock (unfinish h (tail n back) (length front + n + length back)) back))
  framed from front back seed front_is back_is place =
      let ahead = blocks n block (start from) front in
      let ahead_in = (taken_back n some facts.of_block front front_is).there_in (start from) (facts.start_in from seed) in
      likewise (λ b b_is. is_hash from (front ++ (b ++ back))
      ∙ rw (
        framed-blocks n some block (start from) front b back place b_is.1,
        framed-tail n some block (start from) front b back place b_is.1,
        framed-length n some front b back b_is.1,
      ) refl) (λ h _. refl)
      (facts.of_between ahead ahead_in ▷ taken_back n some facts.of_block back back_is
      ▷ facts.of_end (tail n back) (length front + n + length back) (tail-left n some back back_is))

  -- ---- one changed block

  module _ (from x y : List ℕ) (seed : is_seed from) (xs : IsText x) (ys : IsText y) (differ : DifferInOneBlock n x y) where
    abbrev k : ℕ
    k = length x / n

    abbrev g : ℕ
    g = differ.one.0

    pub differ-shows : hash from x ≢ hash from y
    unfolding blocks tail pieces
    differ-shows same =
        let at_length = λ (m : ℕ). finish (fold block (start from) (first_chunks n (m / n) y)) (drop (m / n * n) y) m in
        let led = sym (is_hash from x) ∙ same ∙ is_hash from y ∙ ap at_length (sym differ.same_length) in
        differ.different (texts-same in_range (IsBlock n) block (λ s b s_in b_is. (facts.of_block b b_is).there_in s s_in)
        (λ s t b s_in t_in b_is e. told (facts.of_block b b_is) s t s_in t_in e) (λ b c. Unit {0})
        (λ s b c s_in b_is c_is _ e. told (facts.of_between s s_in) b c b_is c_is e) n (λ s left. finish s left (length x)) (λ c is. is)
        (λ s t r s_in t_in text few e. told (facts.of_end r (length x) (text, few)) s t s_in t_in e)
        (λ s q r s_in qs rs few long e. facts.left_same s q r (length x) s_in (qs, few) (rs, omega (arith, few, long)) long e)
        k g x y (start from) (facts.start_in from seed) xs ys differ.same_length (div-mul-le_self (length x) n)
        (omega (arith, div-add-mod' (length x) n, mod_below (length x) n some))
        (λ i i_in other. part-same n (i * n) x y differ.same_length
        (λ j j_in. differ.one.1 (i * n + j) (λ e. other (sym (div-mul-add i n j j_in) ∙ e))))
        (λ g_in. rest-same (k * n) x y differ.same_length
        (λ j. differ.one.1 (k * n + j) (λ e. omega (arith, e, g_in, mul-add-div_right some k j))))
        (λ g_in. tt) led)
