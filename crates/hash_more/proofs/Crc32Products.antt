-- Words as polynomials in the bit that goes out, the highest bit being 1: their product, and that 1 with k bits gone out takes k bits out.
use Rattle.hash_more.proofs.Crc32Common.{◌≢◌, ◌≡◌, ℕ, zero, suc, ◌+◌, ◌*◌, ◌/◌, ◌%◌, ◌^◌, ◌<◌, bit_xor, sym, ap, ◌∙◌, refl, arith, ap₂, pow-succ', mul-lt-mul_of_pos_right, mod-lt, xor_self, pow-add, pow_pos, mod-pow-add, bit_out, bits_out}
use Rattle.hash_more.proofs.Crc32Lemmas.{exchanged, bit_out-xor, bit_out-even, moved_down, low_and_high}
use Rattle.hash_more.proofs.Crc32Texts.{bits_out-more, bits_out-none}

-- the product of the low n bits of a word with another word, from the lowest: one bit out, and the other word where the bit is set
abbrev pub product : ℕ → ℕ → ℕ → ℕ → ℕ
product p zero a b = 0
product p (suc n) a b = bit_xor (bit_out p (product p n a b)) (a / 2 ^ n % 2 * b)

scaled-xor : (t c d : ℕ) → t < 2 → t * bit_xor c d ≡ bit_xor (t * c) (t * d)
scaled-xor zero c d small =
    let of_c : 0 ≡ 0 * c = omega arith in
    let of_d : 0 ≡ 0 * d = omega arith in
    let of_both : 0 * bit_xor c d ≡ 0 = omega arith in
    of_both ∙ sym (xor_self 0) ∙ ap₂ bit_xor of_c of_d
scaled-xor (suc zero) c d small =
    let of_c : c ≡ 1 * c = omega arith in
    let of_d : d ≡ 1 * d = omega arith in
    let of_both : 1 * bit_xor c d ≡ bit_xor c d = omega arith in
    of_both ∙ ap₂ bit_xor of_c of_d
scaled-xor (suc (suc t)) c d small = absurd (omega arith)

spread : (t n m low : ℕ) → (t * n + low) * m ≡ low * m + n * m * t
spread t n m low = omega arith

module _ (p : ℕ) where
  scaled-out : (t c : ℕ) → t < 2 → bit_out p (t * c) ≡ t * bit_out p c
  scaled-out zero c small =
      let none : 0 * c ≡ 0 = omega arith in
      ap (bit_out p) none ∙ bits_out-none p 1 ∙ omega arith
  scaled-out (suc zero) c small =
      let one : 1 * c ≡ c = omega arith in
      ap (bit_out p) one ∙ omega arith
  scaled-out (suc (suc t)) c small = absurd (omega arith)

  product-xor : (n a c d : ℕ) → product p n a (bit_xor c d) ≡ bit_xor (product p n a c) (product p n a d)
  product-xor zero a c d = sym (xor_self 0)
  product-xor (suc n) a c d =
      let t = a / 2 ^ n % 2 in
      ap₂ bit_xor (ap (bit_out p) (product-xor n a c d)
      ∙ bit_out-xor p (product p n a c) (product p n a d)) (scaled-xor t c d (omega arith))
      ∙ exchanged (bit_out p (product p n a c)) (bit_out p (product p n a d)) (t * c) (t * d)

  product-out : (n a c : ℕ) → product p n a (bit_out p c) ≡ bit_out p (product p n a c)
  product-out zero a c = sym (bits_out-none p 1)
  product-out (suc n) a c =
      let t = a / 2 ^ n % 2 in
      ap₂ bit_xor (ap (bit_out p) (product-out n a c)) (sym (scaled-out t c (omega arith)))
      ∙ sym (bit_out-xor p (bit_out p (product p n a c)) (t * c))

  product-nothing : (n a : ℕ) → product p n a 0 ≡ 0
  product-nothing zero a = refl
  product-nothing (suc n) a =
      let none : a / 2 ^ n % 2 * 0 ≡ 0 = omega arith in
      ap₂ bit_xor (ap (bit_out p) (product-nothing n a) ∙ bits_out-none p 1) none ∙ xor_self 0

  product-scaled : (n a t c : ℕ) → t < 2 → product p n a (t * c) ≡ t * product p n a c
  product-scaled n a zero c small =
      let none : 0 * c ≡ 0 = omega arith in
      ap (product p n a) none ∙ product-nothing n a ∙ omega arith
  product-scaled n a (suc zero) c small =
      let one : 1 * c ≡ c = omega arith in
      ap (product p n a) one ∙ omega arith
  product-scaled n a (suc (suc t)) c small = absurd (omega arith)

  product-bits_out : (n a k c : ℕ) → product p n a (bits_out p k c) ≡ bits_out p k (product p n a c)
  product-bits_out n a zero c = refl
  product-bits_out n a (suc k) c = product-bits_out n a k (bit_out p c) ∙ ap (bits_out p k) (product-out n a c)

  exchange : (n m a b c : ℕ) → product p n a (product p m b c) ≡ product p m b (product p n a c)
  exchange n zero a b c = product-nothing n a
  exchange n (suc m) a b c =
      let t = b / 2 ^ m % 2 in
      product-xor n a (bit_out p (product p m b c)) (t * c)
      ∙ ap₂ bit_xor (product-out n a (product p m b c) ∙ ap (bit_out p) (exchange n m a b c)) (product-scaled n a t c (omega arith))

  -- the product with 1 has the low n bits as its highest
  product-one : (n m a : ℕ) → n + m ≡ 32 → product p n a (2 ^ 31) ≡ a % 2 ^ n * 2 ^ m
  product-one zero m a whole =
      let none : a % 1 ≡ 0 = omega arith in
      let nothing : 0 * 2 ^ m ≡ 0 = omega arith in
      sym (ap (λ r. r * 2 ^ m) none ∙ nothing)
  product-one (suc n) m a whole =
      let t = a / 2 ^ n % 2 in
      let low = a % 2 ^ n in
      let y = low * 2 ^ m in
      let more : n + suc m ≡ 32 = omega arith in
      let places : 31 ≡ n + m = omega arith in
      let digits : suc n ≡ 1 + n = omega arith in
      let twice : low * 2 ^ suc m ≡ 2 * y = ap (λ q. low * q) (pow-succ' 2 m) ∙ omega arith in
      let power : 2 ^ 31 ≡ 2 ^ n * 2 ^ m = ap (λ j. 2 ^ j) places ∙ pow-add 2 n m in
      let below : y < 2 ^ n * 2 ^ m = mul-lt-mul_of_pos_right (mod-lt a (pow_pos n)) (pow_pos m) in
      let high : t * 2 ^ 31 ≡ 2 ^ 31 * t = omega arith in
      let digit : a % 2 ^ suc n ≡ t * 2 ^ n + low = ap (λ j. a % 2 ^ j) digits ∙ mod-pow-add a 1 n in
      ap₂ bit_xor (ap (bit_out p) (product-one n (suc m) a more ∙ twice) ∙ bit_out-even p y) high
      ∙ low_and_high 31 y t (rw power below) ∙ ap (λ q. y + q * t) power
      ∙ sym (ap (λ q. q * 2 ^ m) digit ∙ spread t (2 ^ n) (2 ^ m) low)

  pub product_is_power : (k a b : ℕ) → a < 2 ^ 32 → b < 2 ^ 32 → a ≡ bits_out p k (2 ^ 31) → product p 32 a b ≡ bits_out p k b
  product_is_power k a b small_a small_b is =
      let of_a : product p 32 a (2 ^ 31) ≡ a = product-one 32 0 a refl ∙ omega arith in
      let of_b : product p 32 b (2 ^ 31) ≡ b = product-one 32 0 b refl ∙ omega arith in
      ap (product p 32 a) (sym of_b) ∙ exchange 32 32 a b (2 ^ 31) ∙ ap (product p 32 b) (of_a ∙ is)
      ∙ product-bits_out 32 b k (2 ^ 31) ∙ ap (bits_out p k) of_b

-- the count that is left, as a power of the bit that goes out
pub record LeadsTo (p power rest word goal′ : ℕ) : Type 0 where
  pub bits : ℕ
  pub is_power : power ≡ bits_out p bits (2 ^ 31)
  pub leads : bits_out p (bits * rest) word ≡ goal′

pub begins : (p word count : ℕ) → LeadsTo p 0x800000 count word (bits_out p (8 * count) word)
begins p word count = record { bits = 8; is_power = sym (moved_down p 8 0x800000); leads = refl }

pub ends : (p power rest word goal′ : ℕ) → LeadsTo p power rest word goal′ → rest ≡ 0 → word ≡ goal′
ends p power rest word goal′ left none =
    let nothing : left.bits * 0 ≡ 0 = omega arith in
    sym (ap (λ n. bits_out p n word) (ap (λ r. left.bits * r) none ∙ nothing)) ∙ left.leads

squared : (p power next k : ℕ) → power ≡ bits_out p k (2 ^ 31) → next ≡ bits_out p k power → next ≡ bits_out p (k + k) (2 ^ 31)
squared p power next k is led = led ∙ ap (bits_out p k) is ∙ bits_out-more p k k (2 ^ 31)

-- a turn of squaring: of an odd count one power is taken
pub turn_odd : (p power rest word goal′ next moved : ℕ) → LeadsTo p power rest word goal′ → rest % 2 ≡ 1
    → ((k : ℕ) → power ≡ bits_out p k (2 ^ 31) → next ≡ bits_out p k power)
    → ((k : ℕ) → power ≡ bits_out p k (2 ^ 31) → moved ≡ bits_out p k word)
    → LeadsTo p next (rest / 2) moved goal′
turn_odd p power rest word goal′ next moved left odd square take =
    let k = left.bits in
    let half = rest / 2 in
    let is : 2 * half + 1 ≡ rest = omega arith in
    let times : k + (k + k) * half ≡ k * (2 * half + 1) = omega arith in
    record {
      bits = k + k;
      is_power = squared p power next k left.is_power (square k left.is_power);
      leads = ap (bits_out p ((k + k) * half)) (take k left.is_power) ∙ bits_out-more p k ((k + k) * half) word
          ∙ ap (λ n. bits_out p n word) (times ∙ ap (λ r. k * r) is) ∙ left.leads;
    }

pub turn_even : (p power rest word goal′ next moved : ℕ) → LeadsTo p power rest word goal′ → rest % 2 ≢ 1
    → ((k : ℕ) → power ≡ bits_out p k (2 ^ 31) → next ≡ bits_out p k power) → moved ≡ word
    → LeadsTo p next (rest / 2) moved goal′
turn_even p power rest word goal′ next moved left even square same =
    let k = left.bits in
    let half = rest / 2 in
    let is : 2 * half ≡ rest = omega arith in
    let times : (k + k) * half ≡ k * (2 * half) = omega arith in
    record {
      bits = k + k;
      is_power = squared p power next k left.is_power (square k left.is_power);
      leads = ap (bits_out p ((k + k) * half)) same ∙ ap (λ n. bits_out p n word) (times ∙ ap (λ r. k * r) is) ∙ left.leads;
    }
