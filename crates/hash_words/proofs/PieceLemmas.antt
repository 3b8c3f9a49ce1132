-- Texts in pieces, and what a fold over pieces tells of them where all but one are equal.
use Rattle.hash_words.proofs.Common.{◌≡◌, ◌≢◌, ℕ, zero, suc, lit<, ◌+◌, ◌*◌, ◌^◌, ◌<◌, ◌≤◌, List, [], ◌∷◌, ◌++◌, length, get_or, slice_index, take, drop, fold, map, min, All, refl, sym, ap, ◌∙◌, arith, inl, inr, ap₂, pow-suc, cases_lt, ext_get_or, get_or-take, get_or-drop, length-take, drop_all, get_or_past, All-nil, All-cons, All-head, All-tail, All-take, All-drop, first_chunks, le, drop-drop, length-take-le, length-drop, take-append-drop}
use Rattle.hash_words.proofs.Chunks.{get_or-first_chunks}

abbrev pub AreBytes : List ℕ → Type 0
AreBytes = All (λ (byte : ℕ). byte < 256)

abbrev pub IsByte : ℕ → Type 0
IsByte byte = byte < 256

-- ---- the little-endian value

-- n bytes are a number below 256^n
pub le-lt : (bytes : List ℕ) → AreBytes bytes → le bytes < 256 ^ length bytes
unfolding le
le-lt [] are = lit< tt
le-lt (b ∷ bytes) are =
    let here : b < 256 = All-head IsByte b bytes are in
    let rest : le bytes < 256 ^ length bytes = le-lt bytes (All-tail IsByte b bytes are) in
    rw pow-suc (omega arith)

-- the bytes of a word are known by its value
pub le-same : (x y : List ℕ) → AreBytes x → AreBytes y → length x ≡ length y → le x ≡ le y → x ≡ y
unfolding le
le-same [] [] xs ys len same = refl
le-same [] (b ∷ y) xs ys len same = absurd (omega (arith, len))
le-same (a ∷ x) [] xs ys len same = absurd (omega (arith, len))
le-same (a ∷ x) (b ∷ y) xs ys len same =
    let first : a < 256 = All-head IsByte a x xs in
    let second : b < 256 = All-head IsByte b y ys in
    let heads : a ≡ b = omega (arith, same) in
    let values : le x ≡ le y = omega (arith, same) in
    ap₂ (λ c t. c ∷ t) heads (le-same x y (All-tail IsByte a x xs) (All-tail IsByte b y ys) (omega (arith, len)) values)

-- ---- pieces

-- parts that agree at each place
pub part-same : (n from : ℕ) (x y : List ℕ) → length x ≡ length y → ((i : ℕ) → i < n → slice_index x (from + i) ≡ slice_index y (from + i))
    → take n (drop from x) ≡ take n (drop from y)
part-same n from x y len agree =
    let long : length (take n (drop from x)) ≡ length (take n (drop from y)) =
    omega (arith, len, length-take n (drop from x), length-take n (drop from y), length-drop from x, length-drop from y) in
    ext_get_or 0 _ _ long (λ i i_in.
    let within : i < n = omega (arith, i_in, length-take n (drop from x)) in
    get_or-take n (drop from x) i 0 within ∙ get_or-drop from x i 0 ∙ agree i within
    ∙ sym (get_or-take n (drop from y) i 0 within ∙ get_or-drop from y i 0))

-- texts that agree from a place on
pub rest-same : (from : ℕ) (x y : List ℕ) → length x ≡ length y → ((i : ℕ) → slice_index x (from + i) ≡ slice_index y (from + i))
    → drop from x ≡ drop from y
rest-same from x y len agree =
    ext_get_or 0 _ _ (omega (arith, len, length-drop from x, length-drop from y))
    (λ i _. get_or-drop from x i 0 ∙ agree i ∙ sym (get_or-drop from y i 0))

pub length-first_chunks : {X : Type 0} (n k : ℕ) (xs : List X) → length (first_chunks n k xs) ≡ k
length-first_chunks n zero xs = refl
length-first_chunks n (suc k) xs = ap suc (length-first_chunks n k (drop n xs))

-- pieces and what is left behind them tell the text
pub first_chunks-same : (n k : ℕ) (x y : List ℕ) → first_chunks n k x ≡ first_chunks n k y → drop (k * n) x ≡ drop (k * n) y → x ≡ y
first_chunks-same n zero x y same rest = let none : 0 * n ≡ 0 = omega arith in rw none at rest
first_chunks-same n (suc k) x y same rest =
    let places : suc k * n ≡ n + k * n = omega arith in
    let first : take n x ≡ take n y = ap (λ (cs : List (List ℕ)). get_or cs 0 []) same in
    let others : first_chunks n k (drop n x) ≡ first_chunks n k (drop n y) = ap (λ (cs : List (List ℕ)). drop 1 cs) same in
    let left : drop (k * n) (drop n x) ≡ drop (k * n) (drop n y) =
    drop-drop (k * n) n x ∙ ap (λ m. drop m x) (sym places) ∙ rest ∙ ap (λ m. drop m y) places ∙ sym (drop-drop (k * n) n y) in
    sym (take-append-drop n x) ∙ ap₂ (λ (a b : List ℕ). a ++ b) first (first_chunks-same n k (drop n x) (drop n y) others left)
    ∙ take-append-drop n y

-- a whole piece of bytes
abbrev pub IsPiece : ℕ → List ℕ → Type 0
IsPiece n c = AreBytes c × (length c ≡ n)

pub first_chunks-pieces : (n k : ℕ) (x : List ℕ) → AreBytes x → k * n ≤ length x → All (IsPiece n) (first_chunks n k x)
first_chunks-pieces n zero x are fits = All-nil (IsPiece n)
first_chunks-pieces n (suc k) x are fits =
    let places : suc k * n ≡ n + k * n = omega arith in
    let whole : n ≤ length x = omega (arith, fits, places) in
    All-cons (IsPiece n) (take n x) (first_chunks n k (drop n x)) (All-take IsByte n x are, length-take-le n x whole)
    (first_chunks-pieces n k (drop n x) (All-drop IsByte n x are) (omega (arith, fits, places, length-drop n x)))

-- pieces as words tell the pieces
pub words-same : (n k : ℕ) (x y : List ℕ) → AreBytes x → AreBytes y → length x ≡ length y
    → map le (first_chunks n k x) ≡ map le (first_chunks n k y)
    → first_chunks n k x ≡ first_chunks n k y
words-same n zero x y xs ys len same = refl
words-same n (suc k) x y xs ys len same =
    let value : le (take n x) ≡ le (take n y) = ap (λ (ws : List ℕ). slice_index ws 0) same in
    let others : map le (first_chunks n k (drop n x)) ≡ map le (first_chunks n k (drop n y)) = ap (λ (ws : List ℕ). drop 1 ws) same in
    let long : length (take n x) ≡ length (take n y) = length-take n x ∙ ap (λ m. min n m) len ∙ sym (length-take n y) in
    ap₂ (λ (c : List ℕ) (cs : List (List ℕ)). c ∷ cs) (le-same _ _ (All-take IsByte n x xs) (All-take IsByte n y ys) long value)
    (words-same n k (drop n x) (drop n y) (All-drop IsByte n x xs) (All-drop IsByte n y ys)
    (omega (arith, len, length-drop n x, length-drop n y)) others)

no_rest : (n : ℕ) (x : List ℕ) → length x ≡ n → drop n x ≡ []
no_rest n x len = drop_all n x (omega (arith, len))

-- texts of k words of n bytes are known by the words
pub all_words-same : (n k : ℕ) (x y : List ℕ) → IsPiece (k * n) x → IsPiece (k * n) y
    → map le (first_chunks n k x) ≡ map le (first_chunks n k y) → x ≡ y
all_words-same n k x y xs ys same =
    first_chunks-same n k x y (words-same n k x y xs.0 ys.0 (xs.1 ∙ sym ys.1) same) (no_rest (k * n) x xs.1 ∙ sym (no_rest (k * n) y ys.1))

-- ---- a fold over pieces, all but one of which are equal

module _ {S : Type 0} (in_range : S → Type 0) (is_piece : List ℕ → Type 0) (f : S → List ℕ → S)
    (kept : (s : S) (c : List ℕ) → in_range s → is_piece c → in_range (f s c))
    (state_injective : (s t : S) (c : List ℕ) → in_range s → in_range t → is_piece c → f s c ≡ f t c → s ≡ t) where
  pub fold-in_range : (cs : List (List ℕ)) (s : S) → in_range s → All is_piece cs → in_range (fold f s cs)
  fold-in_range [] s s_in are = s_in
  fold-in_range (c ∷ cs) s s_in are = fold-in_range cs (f s c) (kept s c s_in (All-head is_piece c cs are)) (All-tail is_piece c cs are)

  pub fold-same : (cs : List (List ℕ)) (s t : S) → in_range s → in_range t → All is_piece cs → fold f s cs ≡ fold f t cs → s ≡ t
  fold-same [] s t s_in t_in are same = same
  fold-same (c ∷ cs) s t s_in t_in are same =
      let here = All-head is_piece c cs are in
      state_injective s t c s_in t_in here
      (fold-same cs (f s c) (f t c) (kept s c s_in here) (kept t c t_in here) (All-tail is_piece c cs are) same)

  -- `alike` is how the two pieces that may differ agree
  module _ (alike : List ℕ → List ℕ → Type 0)
      (piece_injective : (s : S) (c e : List ℕ) → in_range s → is_piece c → is_piece e → alike c e → f s c ≡ f s e → c ≡ e) where
    pub fold-one : (g : ℕ) (cs es : List (List ℕ)) (s : S) → in_range s → All is_piece cs → All is_piece es → length cs ≡ length es
        → ((i : ℕ) → i ≢ g → get_or cs i [] ≡ get_or es i []) → (g < length cs → alike (get_or cs g []) (get_or es g []))
        → fold f s cs ≡ fold f s es → cs ≡ es
    fold-one g [] [] s s_in are be len agree like same = refl
    fold-one g [] (e ∷ es) s s_in are be len agree like same = absurd (omega (arith, len))
    fold-one g (c ∷ cs) [] s s_in are be len agree like same = absurd (omega (arith, len))
    fold-one zero (c ∷ cs) (e ∷ es) s s_in are be len agree like same =
        let c_is = All-head is_piece c cs are in
        let e_is = All-head is_piece e es be in
        let later : cs ≡ es = ext_get_or [] cs es (omega (arith, len)) (λ i _. agree (suc i) (λ (z : suc i ≡ 0). omega (arith, z))) in
        let led : fold f (f s c) cs ≡ fold f (f s e) cs = same ∙ ap (fold f (f s e)) (sym later) in
        let here = fold-same cs (f s c) (f s e) (kept s c s_in c_is) (kept s e s_in e_is) (All-tail is_piece c cs are) led in
        ap₂ (λ (a : List ℕ) (b : List (List ℕ)). a ∷ b) (piece_injective s c e s_in c_is e_is (like (omega arith)) here) later
    fold-one (suc g) (c ∷ cs) (e ∷ es) s s_in are be len agree like same =
        let first : c ≡ e = agree 0 (λ (z : 0 ≡ suc g). omega (arith, z)) in
        let led : fold f (f s c) cs ≡ fold f (f s c) es = same ∙ ap (λ (d : List ℕ). fold f (f s d) es) (sym first) in
        ap₂ (λ (a : List ℕ) (b : List (List ℕ)). a ∷ b) first
        (fold-one g cs es (f s c) (kept s c s_in (All-head is_piece c cs are)) (All-tail is_piece c cs are) (All-tail is_piece e es be)
        (omega (arith, len))
        (λ i other. agree (suc i) (λ (z : suc i ≡ suc g). other (omega (arith, z)))) (λ g_in. like (omega arith)) led)

    -- the same of texts, where `end` takes the state after the whole pieces and what is left behind them
    module _ {E : Type 0} (n : ℕ) (end : S → List ℕ → E) (whole : (c : List ℕ) → IsPiece n c → is_piece c)
        (end_state : (s t : S) (r : List ℕ) → in_range s → in_range t → AreBytes r → length r < n → end s r ≡ end t r → s ≡ t)
        (end_rest : (s : S) (q r : List ℕ) → in_range s → AreBytes q → AreBytes r → length q < n → length q ≡ length r → end s q ≡ end s r
        → q ≡ r) where
      module _ (k g : ℕ) (x y : List ℕ) (s : S) (s_in : in_range s) (xs : AreBytes x) (ys : AreBytes y) (len : length x ≡ length y)
          (fits : k * n ≤ length x) (left : length x < k * n + n)
          (agree : (i : ℕ) → i < k → i ≢ g → take n (drop (i * n) x) ≡ take n (drop (i * n) y))
          (rest : g < k → drop (k * n) x ≡ drop (k * n) y)
          (like : g < k → alike (take n (drop (g * n) x)) (take n (drop (g * n) y)))
          (same : end (fold f s (first_chunks n k x)) (drop (k * n) x) ≡ end (fold f s (first_chunks n k y)) (drop (k * n) y)) where
        all_whole : (z : List ℕ) → AreBytes z → k * n ≤ length z → All is_piece (first_chunks n k z)
        all_whole z zs z_fits = λ i d i_in. whole _ (first_chunks-pieces n k z zs z_fits i d i_in)

        end_in : (z : List ℕ) → AreBytes z → k * n ≤ length z → in_range (fold f s (first_chunks n k z))
        end_in z zs z_fits = fold-in_range (first_chunks n k z) s s_in (all_whole z zs z_fits)

        y_fits : k * n ≤ length y
        y_fits = omega (arith, fits, len)

        few : length (drop (k * n) x) < n
        few = omega (arith, left, length-drop (k * n) x)

        count : (z : List ℕ) → length (first_chunks n k z) ≡ k
        count z = length-first_chunks n k z

        at : (i : ℕ) → i < k → i ≢ g → get_or (first_chunks n k x) i [] ≡ get_or (first_chunks n k y) i []
        at i i_in other = get_or-first_chunks n k i x [] i_in ∙ agree i i_in other ∙ sym (get_or-first_chunks n k i y [] i_in)

        anywhere : (i : ℕ) → i ≢ g → get_or (first_chunks n k x) i [] ≡ get_or (first_chunks n k y) i []
        anywhere i other = elim (cases_lt i k) [
          | inl i_in ↦ at i i_in other
          | inr past ↦ get_or_past (first_chunks n k x) i [] (omega (arith, past, count x))
              ∙ sym (get_or_past (first_chunks n k y) i [] (omega (arith, past, count y)))
        ]

        pub texts-same : x ≡ y
        texts-same = elim (cases_lt g k) [
          | inl in_piece ↦
              let led = same ∙ ap (end (fold f s (first_chunks n k y))) (sym (rest in_piece)) in
              let states = end_state _ _ (drop (k * n) x) (end_in x xs fits) (end_in y ys y_fits) (All-drop IsByte (k * n) x xs) few led in
              let two : alike (get_or (first_chunks n k x) g []) (get_or (first_chunks n k y) g []) =
              rw (get_or-first_chunks n k g x [] in_piece, get_or-first_chunks n k g y [] in_piece) (like in_piece) in
              first_chunks-same n k x y
              (fold-one g (first_chunks n k x) (first_chunks n k y) s s_in (all_whole x xs fits) (all_whole y ys y_fits)
              (count x ∙ sym (count y)) anywhere (λ _. two) states)
              (rest in_piece)
          | inr past ↦
              let chunks : first_chunks n k x ≡ first_chunks n k y =
              ext_get_or [] _ _ (count x ∙ sym (count y)) (λ i i_in. let below : i
              < k = omega (arith, i_in, count x) in at i below (λ (e : i ≡ g). omega (arith, e, below, past))) in
              let led = same ∙ ap (λ (cs : List (List ℕ)). end (fold f s cs) (drop (k * n) y)) (sym chunks) in
              let long : length (drop (k * n) x) ≡ length (drop (k * n) y)
              = omega (arith, len, length-drop (k * n) x, length-drop (k * n) y) in
              first_chunks-same n k x y chunks
              (end_rest _ _ _ (end_in x xs fits) (All-drop IsByte (k * n) x xs) (All-drop IsByte (k * n) y ys) few long led)
        ]
