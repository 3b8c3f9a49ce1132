-- A number of some bytes behind other bytes.
use Rattle.std.proofs.lemmas.Bool.Decides.{nat_tests}
use Rattle.hash_keyed.proofs.Common.{ℕ, zero, suc, ◌≡◌, ◌+◌, ◌-◌, ◌*◌, ◌/◌, ◌%◌, ◌^◌, ◌<◌, ◌≤◌, List, ◌++◌, length, take, drop, refl, sym, ap, ap₂, ◌∙◌, arith, lit<, mod-lt, subst, length-drop, le_bytes, byte_at, bytes_low_first, div-add-mod, div-div-eq-div-mul, mul-le, pow-add, take-append-drop, drop_all, length-take-le, fold-append, All-append, All-drop, All-take, IsText, le, IsByte, IsText-le_bytes, prime61, poly_step, after, full_words, IsInside, position_of, part_at, length-append, mod-mul, mod-eq_of_lt, pow-suc, pow_pos, take_all, common_steps}
use Rattle.hash_words.proofs.ByteLemmas.{le-append, le-power}
use Rattle.hash_words.proofs.PieceLemmas.{le-same}
use Rattle.hash_keyed.specs.declared.poly61.Poly61Hasher.TheInside.{Inside}
use Rattle.hash_keyed.proofs.ByWords.{after-few, after-seven}
use Rattle.hash_keyed.proofs.CodeLemmas.{places}

-- ---- the bytes of a number

length-low_first : (i k n : ℕ) → length (bytes_low_first i k n) ≡ k
length-low_first i zero n = refl
length-low_first i (suc k) n = ap suc (length-low_first (suc i) k n)

byte_is : (i n : ℕ) → byte_at i n ≡ n / 256 ^ i % 256
byte_is zero n = omega arith
byte_is (suc i) n = refl

power_of_bytes : (k : ℕ) → 256 ^ k ≡ 2 ^ (8 * k)
power_of_bytes zero = refl
power_of_bytes (suc k) = grind (arith, nat_tests, common_steps, pow-add 2 8 (8 * k), pow-suc 256 k, power_of_bytes k)

le-low_first : (i k n : ℕ) → le (bytes_low_first i k n) ≡ n / 256 ^ i % 256 ^ k
unfolding le
le-low_first i zero n = omega arith
le-low_first i (suc k) n =
    let m = n / 256 ^ i in
    let next : n / 256 ^ suc i ≡ m / 256 = ap (λ p. n / p) (pow-suc 256 i) ∙ sym (div-div-eq-div-mul n (256 ^ i) 256) in
    let some : 0 < 256 ^ k = omega (arith, power_of_bytes k, pow_pos (8 * k)) in
    let digits : m % 256 ^ suc k ≡ (m / 256 % 256 ^ k) * 256 + m % 256 =
    ap (λ p. m % p) (pow-suc 256 k) ∙ mod-mul m {m = 256 ^ k} {c = 256} some (lit< tt) in
    omega (arith, byte_is i n, le-low_first (suc i) k n, ap (λ q. q % 256 ^ k) next, digits)

pub length-le_bytes : (k n : ℕ) → length (le_bytes k n) ≡ k
unfolding le_bytes
length-le_bytes k n = length-low_first 0 k n

pub le-le_bytes : (k n : ℕ) → n < 2 ^ (8 * k) → le (le_bytes k n) ≡ n
unfolding le_bytes
le-le_bytes k n within = grind (arith, nat_tests, common_steps, le-low_first, power_of_bytes, mod-eq_of_lt)

-- sixteen bytes of a number are eight of its low half and eight of its high half
pub le_bytes-halves : (n : ℕ) → n < 2 ^ 128 → le_bytes 8 (n % 2 ^ 64) ++ le_bytes 8 (n / 2 ^ 64) ≡ le_bytes 16 n
le_bytes-halves n within =
    let low = le_bytes 8 (n % 2 ^ 64) in
    let high = le_bytes 8 (n / 2 ^ 64) in
    let long = length-le_bytes 8 (n % 2 ^ 64) in
    let value : le (low ++ high) ≡ n % 2 ^ 64 + n / 2 ^ 64 * 2 ^ 64 =
    le-append low high
    ∙ ap₂ (λ a b. a + b) (le-le_bytes 8 (n % 2 ^ 64) (mod-lt n (lit< tt)))
    (ap₂ (λ a k. a * 2 ^ (8 * k)) (le-le_bytes 8 (n / 2 ^ 64) (omega (arith, within))) long) in
    le-same (low ++ high) (le_bytes 16 n)
    (All-append IsByte low high (IsText-le_bytes 8 (n % 2 ^ 64)) (IsText-le_bytes 8 (n / 2 ^ 64))) (IsText-le_bytes 16 n)
    (omega (arith, length-append low high, long, length-le_bytes 8 (n / 2 ^ 64), length-le_bytes 16 n))
    (omega (arith, value, le-le_bytes 16 n within))

-- ---- a number behind the bytes of a word

-- a number moved to the left, in words of p * r
pub moved_parts : (n w p r : ℕ) → w ≡ p * r → 0 < r → (n * p ≡ w * (n / r) + n % r * p) × (n % r * p + p ≤ w)
moved_parts n w p r split some =
    let parts = ap (λ z. z * p) (div-add-mod n r) in
    let whole = ap (λ z. z * (n / r)) split in
    let rest = mul-le (suc (n % r)) p r p (mod-lt n some) (omega arith) in
    (omega (arith, parts, whole), omega (arith, split, rest))

-- by fewer than seven bytes, in words of seven bytes
pub moved : (n k : ℕ) → k < 7 → (n * 2 ^ (8 * k) ≡ 2 ^ 56 * (n / 2 ^ (56 - 8 * k)) + n % 2 ^ (56 - 8 * k) * 2 ^ (8 * k))
    × (n % 2 ^ (56 - 8 * k) * 2 ^ (8 * k) + 2 ^ (8 * k) ≤ 2 ^ 56)
moved n k few =
    let split : 2 ^ 56 ≡ 2 ^ (8 * k) * 2 ^ (56 - 8 * k) =
    ap (λ j. 2 ^ j) (let e : 56 ≡ 8 * k + (56 - 8 * k) = omega (arith, few) in e) ∙ pow-add 2 (8 * k) (56 - 8 * k) in
    moved_parts n (2 ^ 56) (2 ^ (8 * k)) (2 ^ (56 - 8 * k)) split (pow_pos (56 - 8 * k))

-- a number of up to eight bytes behind those that a hasher keeps, as the word that both begin and what is behind it
module _ (h : Inside) (is : IsInside h) (number more first rest : ℕ) (short : more ≤ 8) (within : number < 2 ^ (8 * more))
    (whole : first + rest * 2 ^ 56 ≡ h.word + number * 2 ^ (8 * h.count)) (small : first < 2 ^ 56) where
  kept : List ℕ
  kept = le_bytes h.count h.word

  all : List ℕ
  all = kept ++ le_bytes more number

  text : IsText all
  unfolding all kept
  text = All-append IsByte kept (le_bytes more number) (IsText-le_bytes h.count h.word) (IsText-le_bytes more number)

  long : length all ≡ h.count + more
  unfolding all kept
  long = length-append kept (le_bytes more number) ∙ ap₂ (λ m n. m + n) (length-le_bytes h.count h.word) (length-le_bytes more number)

  value : le all ≡ first + rest * 2 ^ 56
  unfolding all kept
  value = grind (arith, nat_tests, common_steps, le-append, kept, le-le_bytes, length-le_bytes)

  behind_kept : after (position_of h) (le_bytes more number) ≡ after (full_words h.key h.state) all
  unfolding all kept
  behind_kept = grind (arith, nat_tests, common_steps, after-few, kept, length-le_bytes, le-le_bytes, fold-append)

  -- fewer than seven bytes in all
  pub number_kept : h.count + more < 7 → (first < 2 ^ (8 * (h.count + more)))
      × (part_at h.key (h.state % prime61) first (h.count + more) ≡ after (position_of h) (le_bytes more number))
  number_kept few = grind (arith, nat_tests, common_steps, all, long, le-power, text, value, places, behind_kept, after-few)

  module _ (enough : 7 ≤ h.count + more) where
    seven : length (take 7 all) ≡ 7
    seven = length-take-le 7 all (omega (arith, long, enough))

    behind : length (drop 7 all) ≡ h.count + more - 7
    behind = omega (arith, long, length-drop 7 all)

    -- the first seven bytes are a word, and the rest is behind it
    cut : (le (take 7 all) ≡ first) × (le (drop 7 all) ≡ rest)
    cut =
        let parts : le (take 7 all) + le (drop 7 all) * 2 ^ 56 ≡ first + rest * 2 ^ 56 =
        ap (λ n. le (take 7 all) + le (drop 7 all) * 2 ^ (8 * n)) (sym seven) ∙ sym (le-append (take 7 all) (drop 7 all))
        ∙ ap le (take-append-drop 7 all) ∙ value in
        let below : le (take 7 all) < 2 ^ 56 =
        subst (λ n. le (take 7 all) < 2 ^ (8 * n)) seven (le-power (take 7 all) (All-take IsByte 7 all text)) in
        (omega (arith, parts, below, small), omega (arith, parts, below, small))

    pub rest-lt : rest < 2 ^ (8 * (h.count + more - 7))
    rest-lt =
        subst (λ n. n < 2 ^ (8 * (h.count + more - 7))) cut.1
        (subst (λ n. le (drop 7 all) < 2 ^ (8 * n)) behind (le-power (drop 7 all) (All-drop IsByte 7 all text)))

    one_word : (t : ℕ) → t % prime61 ≡ poly_step prime61 h.key h.state first
        → after (position_of h) (le_bytes more number) ≡ after (full_words h.key t) (drop 7 all)
    one_word t led =
        behind_kept ∙ after-seven h.key h.state t all (omega (arith, long, enough)) (led ∙ ap (poly_step prime61 h.key h.state) (sym cut.0))

    -- fewer than seven behind the word
    pub number_fills : (t : ℕ) → h.count + more < 14 → t % prime61 ≡ poly_step prime61 h.key h.state first
        → part_at h.key (t % prime61) rest (h.count + more - 7) ≡ after (position_of h) (le_bytes more number)
    number_fills t few led =
        sym (one_word t led ∙ after-few h.key t (drop 7 all) (omega (arith, behind, few))
        ∙ ap₂ (λ w n. part_at h.key (t % prime61) w n) cut.1 behind)

  -- two words
  pub number_fills_two : (t u : ℕ) → (many : 14 ≤ h.count + more) → t % prime61 ≡ poly_step prime61 h.key h.state first
      → u % prime61 ≡ poly_step prime61 h.key t rest
      → full_words h.key u ≡ after (position_of h) (le_bytes more number)
  number_fills_two t u many first_led led =
      let enough : 7 ≤ h.count + more = omega (arith, many) in
      let seven_more : length (drop 7 all) ≡ 7 = omega (arith, behind enough, is.count_in, short, many) in
      let whole_rest : le (take 7 (drop 7 all)) ≡ rest = ap le (take_all 7 (drop 7 all) (omega (arith, seven_more))) ∙ (cut enough).1 in
      sym (one_word enough t first_led
      ∙ after-seven h.key t u (drop 7 all) (omega (arith, seven_more)) (led ∙ ap (poly_step prime61 h.key t) (sym whole_rest))
      ∙ ap (after (full_words h.key u)) (drop_all 7 (drop 7 all) (omega (arith, seven_more))))
