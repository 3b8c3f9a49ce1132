-- When the bits in which two texts differ are a burst of 32 bits: told by the first byte that differs, and the fifth from there on.
use Rattle.hash_theorems.proofs.MoreCommon.{◌≡◌, ◌≢◌, ◌↔◌, IsTrue, nat_eq, ℕ, zero, suc, ◌+◌, ◌-◌, ◌*◌, ◌/◌, ◌%◌, ◌^◌, ◌<◌, ◌≤◌, Bool, List, [], ◌∷◌, length, take, drop, get_or, bit_xor, refl, sym, ap, ◌∙◌, lit<, arith, inl, inr, subst, ap₂, drop-cons, cases_lt, xor_self, Decides-eqb, bit_at-trailing_zeros, IsText, xor_cancel, DifferWithin, IsFirstDifference, exchanged, low_and_high, common_steps, nat_tests, rules}
use Rattle.std.proofs.Math.Nat.{mul-pos, mul_assoc, mul_comm, mul-div_cancel, mul-mod_right, mod-add-div, pow-succ', pow-le-pow_right, mul-le-mul_left, mul-le-mul_right, mul-div-le, div-eq_of_lt, mod-lt, lt_of_mul-lt-mul_left, div-add-mod}
use Rattle.std.proofs.Math.Pow.{mod-mod-pow}
use Rattle.std.proofs.lemmas.Nat.{xor_lt, xor_shr, xor_mod, pow-add, pow_pos, mod-pow-add}
use Rattle.std.proofs.lemmas.List.Elements.{All-head, All-tail, All-drop}
use Rattle.std.proofs.lemmas.List.{length-drop, take_all, get_or-drop, get_or_past}
use Rattle.std.specs.Cmp.Lexicographic.{pointwise}
use Rattle.std.proofs.lemmas.Slice.Eq.{slice_eq-Decides}
use Rattle.std.specs.Int.{trailing_zeros, w8}
use Rattle.hash_words.specs.Words.{le}
use Rattle.hash_theorems.specs.Bursts.{IsBurst, DifferWithinBits}

-- ---- bursts

pub IsBurst-twice : (bits d : ℕ) → IsBurst bits d → IsBurst bits (2 * d)
IsBurst-twice bits d burst = grind (arith, nat_tests, common_steps, mul_assoc 2 (2 ^ burst.from) burst.pattern, pow-succ' 2 burst.from)

halved : (bits d from pattern : ℕ) → 0 < pattern → pattern < 2 ^ bits → 2 * d ≡ 2 ^ from * pattern → IsBurst bits d
halved bits d zero pattern some fits is = record { from = 0; pattern = d; some = omega arith; fits = omega arith; is = omega arith }
halved bits d (suc from) pattern some fits is = grind (arith, nat_tests, common_steps, pow-succ', mul_assoc)

pub IsBurst-half : (bits d : ℕ) → IsBurst bits (2 * d) → IsBurst bits d
IsBurst-half bits d burst = halved bits d burst.from burst.pattern burst.some burst.fits burst.is

-- zeros in front don't matter
pub IsBurst-shifted : (bits k d : ℕ) → IsBurst bits (2 ^ k * d) ↔ IsBurst bits d
IsBurst-shifted bits zero d = grind (arith, nat_tests, common_steps)
IsBurst-shifted bits (suc k) d =
    let twice : 2 ^ suc k * d ≡ 2 * (2 ^ k * d) = ap (λ n. n * d) (pow-succ' 2 k) ∙ mul_assoc 2 (2 ^ k) d in
    let P : ℕ → Type 0 = IsBurst bits in
    let rest = IsBurst-shifted bits k d in (
      (λ burst. rest.0 (IsBurst-half bits (2 ^ k * d) (subst P twice burst))),
      (λ burst. subst P (sym twice) (IsBurst-twice bits
          (2 ^ k * d) (rest.1 burst))),
    )

-- ---- where the bits of two texts differ, as a number

xor_above : (k a b : ℕ) → bit_xor (2 ^ k * a) (2 ^ k * b) ≡ 2 ^ k * bit_xor a b
xor_above k a b =
    let both = bit_xor (2 ^ k * a) (2 ^ k * b) in
    let back = λ (n : ℕ). ap (λ m. m / 2 ^ k) (mul_comm (2 ^ k) n) ∙ mul-div_cancel n (pow_pos k) in
    let above : both / 2 ^ k ≡ bit_xor a b = xor_shr (2 ^ k * a) (2 ^ k * b) k ∙ ap₂ bit_xor (back a) (back b) in
    grind (arith, nat_tests, common_steps, xor_mod, mul-mod_right, xor_self, mod-add-div)

-- the first bytes, and the others above them
difference-cons : (a b : ℕ) (x y : List ℕ) → a < 256 → b < 256
    → bit_xor (le (a ∷ x)) (le (b ∷ y)) ≡ bit_xor a b + 256 * bit_xor (le x) (le y)
unfolding le
difference-cons a b x y small_a small_b =
    ap₂ bit_xor (sym (low_and_high 8 a (le x) small_a)) (sym (low_and_high 8 b (le y) small_b))
    ∙ exchanged a (256 * le x) b (256 * le y) ∙ ap (bit_xor (bit_xor a b)) (xor_above 8 (le x) (le y))
    ∙ low_and_high 8 (bit_xor a b) (bit_xor (le x) (le y)) (xor_lt 8 a b small_a small_b)

head_is : (a : ℕ) (x : List ℕ) → IsText (a ∷ x) → a < 256
head_is a x known = All-head (λ byte. byte < 256) a x known

tail_is : (a : ℕ) (x : List ℕ) → IsText (a ∷ x) → IsText x
tail_is a x known = All-tail (λ byte. byte < 256) a x known

-- where it is nothing, the texts are one
difference-none : (x y : List ℕ) → IsText x → IsText y → length x ≡ length y → bit_xor (le x) (le y) ≡ 0 → x ≡ y
difference-none [] [] xs ys same none = refl
difference-none [] (b ∷ y) xs ys same none = absurd (omega (arith, same))
difference-none (a ∷ x) [] xs ys same none = absurd (omega (arith, same))
difference-none (a ∷ x) (b ∷ y) xs ys same none =
    let sum = sym (difference-cons a b x y (head_is a x xs) (head_is b y ys)) ∙ none in
    let first : bit_xor a b ≡ 0 = omega (arith, sum) in
    let rest : bit_xor (le x) (le y) ≡ 0 = omega (arith, sum) in
    ap₂ (λ c t. c ∷ t) (xor_cancel a b b (first
    ∙ sym (xor_self b))) (difference-none x y (tail_is a x xs) (tail_is b y ys) (omega (arith, same)) rest)

-- a front that is the same doesn't matter
front-shifted : (first : ℕ) (x y : List ℕ) → IsText x → IsText y → length x ≡ length y
    → ((i : ℕ) → i < first → get_or x i 0 ≡ get_or y i 0)
    → bit_xor (le x) (le y) ≡ 2 ^ (8 * first) * bit_xor (le (drop first x)) (le (drop first y))
unfolding le
front-shifted zero x y xs ys same alike = omega arith
front-shifted (suc first) [] [] xs ys same alike = grind (arith, nat_tests, common_steps)
front-shifted (suc first) [] (b ∷ y) xs ys same alike = absurd (omega (arith, same))
front-shifted (suc first) (a ∷ x) [] xs ys same alike = absurd (omega (arith, same))
front-shifted (suc first) (a ∷ x) (b ∷ y) xs ys same alike =
    let heads : a ≡ b = alike 0 (omega arith) in
    let rest = front-shifted first x y (tail_is a x xs) (tail_is b y ys) (omega (arith, same)) (λ i below. alike (suc i) (omega arith)) in
    let none : bit_xor a b ≡ 0 = ap (λ n. bit_xor n b) heads ∙ xor_self b in
    let d = bit_xor (le x) (le y) in
    let sum : 0 + 256 * d ≡ 256 * d = omega arith in
    let bits : 8 + 8 * first ≡ 8 * suc first = omega arith in
    let power : 256 * 2 ^ (8 * first) ≡ 2 ^ (8 * suc first) = sym (pow-add 2 8 (8 * first)) ∙ ap (λ n. 2 ^ n) bits in
    let more = bit_xor (le (drop first x)) (le (drop first y)) in
    difference-cons a b x y (head_is a x xs) (head_is b y ys) ∙ ap (λ n. n + 256 * d) none ∙ sum ∙ ap (λ n. 256 * n) rest
    ∙ sym (mul_assoc 256 (2 ^ (8 * first)) more) ∙ ap (λ n. n * more) power

dropped_length : (n : ℕ) (x y : List ℕ) → length x ≡ length y → length (drop n x) ≡ length (drop n y)
dropped_length n x y same = length-drop n x ∙ ap (λ k. k - n) same ∙ sym (length-drop n y)

front_dropped : (first : ℕ) (x y : List ℕ) → IsText x → IsText y → length x ≡ length y
    → ((i : ℕ) → i < first → get_or x i 0 ≡ get_or y i 0)
    → DifferWithinBits 32 x y ↔ DifferWithinBits 32 (drop first x) (drop first y)
front_dropped first x y xs ys same alike =
    let shifted = front-shifted first x y xs ys same alike in
    let P : ℕ → Type 0 = IsBurst 32 in
    let both = IsBurst-shifted 32 (8 * first) (bit_xor (le (drop first x)) (le (drop first y))) in search (rules, dropped_length)

-- texts that are the same from a place on differ in a number of so many bytes
few_places : (n : ℕ) (x y : List ℕ) → IsText x → IsText y → length x ≡ length y → ((i : ℕ) → n ≤ i → get_or x i 0 ≡ get_or y i 0)
    → bit_xor (le x) (le y) < 2 ^ (8 * n)
unfolding le
few_places n [] [] xs ys same alike = pow_pos (8 * n)
few_places n [] (b ∷ y) xs ys same alike = absurd (omega (arith, same))
few_places n (a ∷ x) [] xs ys same alike = absurd (omega (arith, same))
few_places zero (a ∷ x) (b ∷ y) xs ys same alike =
    let rest : bit_xor (le x) (le y) < 1 =
    few_places zero x y (tail_is a x xs) (tail_is b y ys) (omega (arith, same)) (λ i above. alike (suc i) (omega arith)) in
    let none : bit_xor a b ≡ 0 = ap (λ n. bit_xor n b) (alike 0 (omega arith)) ∙ xor_self b in
    rw (difference-cons a b x y (head_is a x xs) (head_is b y ys)) (omega (arith, rest, none))
few_places (suc n) (a ∷ x) (b ∷ y) xs ys same alike =
    let small_a = head_is a x xs in
    let small_b = head_is b y ys in
    let rest : bit_xor (le x) (le y) < 2 ^ (8 * n) =
    few_places n x y (tail_is a x xs) (tail_is b y ys) (omega (arith, same)) (λ i above. alike (suc i) (omega arith)) in
    let low : bit_xor a b < 256 = xor_lt 8 a b small_a small_b in
    grind (arith, nat_tests, common_steps, pow-add 2 8 (8 * n), difference-cons a b x y small_a small_b)

-- within four places they are within 32 bits
pub within_four : (x y : List ℕ) → IsText x → IsText y → DifferWithin 4 0 x y → DifferWithinBits 32 x y
within_four x y xs ys window =
    let same = window.same_length in
    let from = window.within.0 in
    let agree = window.within.1 in
    let is_byte = λ (byte : ℕ). byte < 256 in
    let d = bit_xor (le (drop from x)) (le (drop from y)) in
    let shifted = front-shifted from x y xs ys same (λ i below. agree i (inl below)) in
    let below : d < 2 ^ 32 =
    few_places 4 (drop from x) (drop from y) (All-drop is_byte from x xs) (All-drop is_byte from y ys) (dropped_length from x y same)
    (λ i above. get_or-drop from x i 0 ∙ agree (from + i) (inr (omega arith)) ∙ sym (get_or-drop from y i 0)) in
    search (rules, difference-none)

-- ---- the first byte and the fifth

-- the byte at a place, and the others above it
difference_at : (n : ℕ) (x y : List ℕ) → IsText x → IsText y → length x ≡ length y → n < length x
    → bit_xor (le (drop n x)) (le (drop n y)) ≡ bit_xor (get_or x n 0) (get_or y n 0) + 256 * bit_xor (le (drop (suc n) x)) (le (drop
    (suc n) y))
difference_at n x y xs ys same below = search (rules, drop-cons, difference-cons)

quotient_some : (d w : ℕ) → 0 < d → d ≡ w * (d / w) → 0 < d / w
quotient_some d w some is = grind (arith, nat_tests, common_steps, cases_lt)

-- a number is not a multiple of a power of two that is above its lowest bit
lowest_stays : (d a t m pattern : ℕ) → d % 2 ^ (1 + t) ≡ a % 2 ^ (1 + t) → a / 2 ^ t % 2 ≡ 1 → d ≡ 2 ^ (1 + t) * (2 ^ m * pattern) → ⊥
lowest_stays d a t m pattern alike odd is = grind (arith, nat_tests, common_steps, mul-mod_right, mod-pow-add, pow_pos)

-- the set bits of a number end where its low byte's lowest bit says
pub told_by_lowest : (d h r a t : ℕ) → d ≡ h + 2 ^ 32 * r → h < 2 ^ 32 → d % 256 ≡ a → t < 8 → a / 2 ^ t % 2 ≡ 1 → a % 2 ^ t ≡ 0
    → (r < 2 ^ t) ↔ IsBurst 32 d
told_by_lowest d h r a t sum low byte small odd none =
    let more = 8 - t in
    let less = 7 - t in
    let eight : more + t ≡ 8 = omega arith in
    let seven : less + (1 + t) ≡ 8 = omega arith in
    let whole : d % 2 ^ (more + t) ≡ a = ap (λ n. d % 2 ^ n) eight ∙ byte in
    let under : d % 2 ^ t ≡ 0 = sym (mod-mod-pow d more t) ∙ ap (λ n. n % 2 ^ t) whole ∙ none in
    let alike : d % 2 ^ (1 + t) ≡ a % 2 ^ (1 + t) =
    sym (mod-mod-pow d less (1 + t)) ∙ ap (λ n. n % 2 ^ (1 + t)) (ap (λ n. d % 2 ^ n) seven ∙ byte) in
    let parts : 2 ^ t * (d / 2 ^ t) + d % 2 ^ t ≡ d = div-add-mod d (2 ^ t) in
    let is : d ≡ 2 ^ t * (d / 2 ^ t) = omega (arith, parts, under) in
    let some : 0 < a / 2 ^ t = omega (arith, odd) in
    let first : 2 ^ t * 1 ≤ 2 ^ t * (a / 2 ^ t) = mul-le-mul_left (2 ^ t) some in
    let positive : 0 < d = omega (arith, first, pow_pos t, mul-div-le a (2 ^ t), byte) in (
      (λ below.
          let next : r + 1 ≤ 2 ^ t = omega (arith, below) in
          let product : 2 ^ 32 * (r + 1) ≤ 2 ^ 32 * 2 ^ t = mul-le-mul_left (2 ^ 32) next in
          let bound : 2 ^ t * (d / 2 ^ t) < 2 ^ t * 2 ^ 32 = omega (arith, product, parts, sum, low) in
          grind (arith, nat_tests, common_steps, quotient_some, lt_of_mul-lt-mul_left)),
      (λ burst. elim (cases_lt t burst.from) [
        | inl beyond ↦
            let m = burst.from - (1 + t) in
            let place : burst.from ≡ 1 + t + m = omega arith in
            absurd (lowest_stays d a t m burst.pattern alike odd
            (burst.is ∙ ap (λ n. n * burst.pattern) (ap (λ n. 2 ^ n) place ∙ pow-add 2 (1 + t) m)
            ∙ mul_assoc (2 ^ (1 + t)) (2 ^ m) burst.pattern))
        | inr within ↦
            grind (arith, nat_tests, common_steps, mul-le-mul_right, pow-le-pow_right, lit<, mul-le-mul_left, pow_pos)
      ]),
    )

-- ---- texts

pub short_text : (x y : List ℕ) → IsText x → IsText y → length x ≡ length y → 0 < length x → length x ≤ 4 → get_or x 0 0 ≢ get_or y 0 0
    → DifferWithinBits 32 x y
short_text x y xs ys same some few differ =
    let d = bit_xor (le x) (le y) in
    let sum = difference_at 0 x y xs ys same some in
    let below : d < 2 ^ (8 * length x) = few_places (length x) x y xs ys same (λ i above. get_or_past x i 0 above
    ∙ sym (get_or_past y i 0 (omega (arith, same)))) in
    let bits : 8 * length x ≤ 32 = omega (arith, few) in
    let word : d < 2 ^ 32 = omega (arith, below, pow-le-pow_right {n = 2} (lit< tt) {i = 8 * length x} {j = 32} bits) in
    let first : bit_xor (get_or x 0 0) (get_or y 0 0) ≢ 0 = λ none. differ (xor_cancel (get_or x 0 0) (get_or y 0 0) (get_or y 0 0)
    (none ∙ sym (xor_self (get_or y 0 0)))) in
    let positive : 0 < d = omega (arith, sum, first) in
    let is : d ≡ 1 * d = omega arith in
    record { same_length = same; burst = record { from = 0; pattern = d; some = positive; fits = word; is = is } }

pub none_below : (n t : ℕ) → ((i : ℕ) → i < t → n / 2 ^ i % 2 ≡ 0) → n % 2 ^ t ≡ 0
none_below n zero each = grind (arith, nat_tests, common_steps)
none_below n (suc t) each =
    let digits : suc t ≡ 1 + t = omega arith in
    let rest = none_below n t (λ i below. each i (omega arith)) in
    let digit : (n / 2 ^ t % 2) * 2 ^ t ≡ 0 * 2 ^ t = ap (λ m. m * 2 ^ t) (each t (omega arith)) in
    ap (λ k. n % 2 ^ k) digits ∙ mod-pow-add n 1 t ∙ omega (arith, rest, digit)

-- of texts of five bytes and more whose first bytes differ
pub long_text : (x y : List ℕ) (t : ℕ) → IsText x → IsText y → length x ≡ length y → 4 < length x → t < 8
    → bit_xor (get_or x 0 0) (get_or y 0 0) / 2 ^ t % 2 ≡ 1
    → ((i : ℕ) → i < t → bit_xor (get_or x 0 0) (get_or y 0 0) / 2 ^ i % 2 ≡ 0)
    → ((bit_xor (get_or x 4 0) (get_or y 4 0) / 2 ^ t ≡ 0) × (drop 5 x ≡ drop 5 y)) ↔ DifferWithinBits 32 x y
long_text x y t xs ys same long small odd none =
    let at = λ (n : ℕ) (below : n < length x). difference_at n x y xs ys same below in
    let byte = λ (n : ℕ) (below : n < length x).
    xor_lt 8 (get_or x n 0) (get_or y n 0) (xs n 0 below) (ys n 0 (let in_y : n < length y = omega (arith, same, below) in in_y)) in
    let a = bit_xor (get_or x 0 0) (get_or y 0 0) in
    let b = bit_xor (get_or x 1 0) (get_or y 1 0) in
    let c = bit_xor (get_or x 2 0) (get_or y 2 0) in
    let e = bit_xor (get_or x 3 0) (get_or y 3 0) in
    let fifth = bit_xor (get_or x 4 0) (get_or y 4 0) in
    let far = bit_xor (le (drop 5 x)) (le (drop 5 y)) in
    let d = bit_xor (le x) (le y) in
    let h = a + 256 * b + 65536 * c + 16777216 * e in
    let r = fifth + 256 * far in
    let sum : d ≡ h + 2 ^ 32 * r = omega (
      arith,
      at 0 (omega (arith, long)),
      at 1 (omega (arith, long)),
      at 2 (omega (arith, long)),
      at 3 (omega (arith, long)),
      at 4 (omega (arith, long)),
    ) in
    let small_a = byte 0 (omega (arith, long)) in
    let low : h < 2 ^ 32 = omega (
      arith,
      small_a,
      byte 1 (omega (arith, long)),
      byte 2 (omega (arith, long)),
      byte 3 (omega
          (arith, long)),
    ) in
    let first : d % 256 ≡ a = omega (arith, sum, small_a) in
    let told = told_by_lowest d h r a t sum low first small odd (none_below a t none) in
    let limit : 2 ^ t ≤ 2 ^ 7 = pow-le-pow_right {n = 2} (lit< tt) (let at_most : t ≤ 7 = omega (arith, small) in at_most) in (
      grind (arith, nat_tests, common_steps, div-add-mod, mod-lt, pow_pos, xor_self),
      (λ differ.
          let below = told.1 differ.burst in
          let nothing : far ≡ 0 = omega (arith, below, limit) in
          let fits : fifth < 2 ^ t = omega (arith, below) in
          let ends = dropped_length 5 x y same in (
            div-eq_of_lt fits,
            difference-none (drop 5 x) (drop 5 y) (All-drop (λ byte. byte < 256) 5 x xs) (All-drop
                (λ byte. byte < 256) 5 y ys) ends nothing,
          )),
    )

pub no_burst : (x y : List ℕ) → x ≡ y → DifferWithinBits 32 x y → ⊥
no_burst x y same differ = grind (arith, nat_tests, common_steps, xor_self, mul-pos, pow_pos)

-- ---- as the functions have it

slice_from : (x : List ℕ) (k : ℕ) → take (length x - k) (drop k x) ≡ drop k x
slice_from x k = take_all (length x - k) (drop k x) (omega (arith, length-drop k x))

-- what is told of the rest behind a front that is the same
pub front_told : (first : ℕ) (x y : List ℕ) (answer : Bool) → IsText x → IsText y → length x ≡ length y → IsFirstDifference first x y
    → (IsTrue answer ↔ DifferWithinBits 32 (take (length x - first) (drop first x)) (take (length y - first) (drop first y)))
    → IsTrue answer ↔ DifferWithinBits 32 x y
front_told first x y answer xs ys same difference told = search (rules, front_dropped, slice_from)

pub lowest_of : (a b : ℕ) → a < 256 → b < 256 → a ≢ b
    → (trailing_zeros w8 (bit_xor a b) < 8) × (bit_xor a b / 2 ^ trailing_zeros w8 (bit_xor a b) % 2 ≡ 1)
    × ((i : ℕ) → i < trailing_zeros w8 (bit_xor a b) → bit_xor a b / 2 ^ i % 2 ≡ 0)
lowest_of a b small_a small_b differ =
    let some : bit_xor a b ≢ 0 = λ none. differ (xor_cancel a b b (none ∙ sym (xor_self b))) in
    bit_at-trailing_zeros w8 (bit_xor a b) (omega (arith, some)) (xor_lt 8 a b small_a small_b)

-- the fifth byte says no
pub fifth_refuses : (x y : List ℕ) → IsText x → IsText y → length x ≡ length y → 4 < length x → get_or x 0 0 ≢ get_or y 0 0
    → bit_xor (get_or x 4 0) (get_or y 4 0) / 2 ^ trailing_zeros w8 (bit_xor (get_or x 0 0) (get_or y 0 0)) ≢ 0
    → DifferWithinBits 32 x y → ⊥
fifth_refuses x y xs ys same long differ above burst = search (rules, lowest_of, long_text)

-- it does not, and what is behind it decides
pub fifth_allows : (x y : List ℕ) (answer : Bool) → IsText x → IsText y → length x ≡ length y → 4 < length x → get_or x 0 0 ≢ get_or y 0 0
    → bit_xor (get_or x 4 0) (get_or y 4 0) / 2 ^ trailing_zeros w8 (bit_xor (get_or x 0 0) (get_or y 0 0)) ≡ 0
    → answer ≡ pointwise nat_eq (take (length x - 5) (drop 5 x)) (take (length y - 5) (drop 5 y))
    → IsTrue answer ↔ DifferWithinBits 32 x y
fifth_allows x y answer xs ys same long differ none equal =
    let some : 0 < length x = omega (arith, long) in
    let lowest = lowest_of (get_or x 0 0) (get_or y 0 0) (xs 0 0 some) (ys 0 0 (let in_y : 0 < length y = omega
    (arith, same, some) in in_y)) differ in
    let told = long_text x y (trailing_zeros w8 (bit_xor (get_or x 0 0) (get_or y 0 0))) xs ys same long lowest.0 lowest.1 lowest.2 in
    let alike = slice_eq-Decides Decides-eqb _ _ _ equal in (
      (λ yes. told.0 (none, sym (slice_from x 5) ∙ alike.0 yes ∙ slice_from y 5)),
      (λ burst. alike.1 (slice_from x 5 ∙ (told.1 burst).1 ∙ sym (slice_from y 5))),
    )
