-- A CRC by a table: of a word the low byte's bits go out by themselves, and the others move down.
use Rattle.hash_more.proofs.Crc32Common.{◌≡◌, ◌≢◌, ℕ, zero, suc, ◌+◌, ◌*◌, ◌/◌, ◌%◌, ◌^◌, ◌<◌, bit_xor, sym, ap, ◌∙◌, refl, arith, ap₂, pow-succ', mul_assoc, mul_comm, xor_shr, xor_mod, xor_comm, xor_shifted, xor_assoc, xor_self, xor_zero_l, xor_zero_r, xor_twice, bit_out, bits_out}

nothing : (p : ℕ) → 0 * p ≡ 0
nothing p = omega arith

-- one bit goes out of each word of an exclusive or by itself
one_bit : (p a b : ℕ) → a < 2 → b < 2 → bit_xor a b * p ≡ bit_xor (a * p) (b * p)
one_bit p zero zero sa sb = nothing p ∙ sym (xor_self (0 * p))
one_bit p zero (suc zero) sa sb = sym (ap (λ x. bit_xor x (1 * p)) (nothing p) ∙ xor_zero_l (1 * p))
one_bit p (suc zero) zero sa sb = sym (ap (bit_xor (1 * p)) (nothing p) ∙ xor_zero_r (1 * p))
one_bit p (suc zero) (suc zero) sa sb = nothing p ∙ sym (xor_self (1 * p))
one_bit p (suc (suc a)) b sa sb = absurd (omega arith)
one_bit p zero (suc (suc b)) sa sb = absurd (omega arith)
one_bit p (suc zero) (suc (suc b)) sa sb = absurd (omega arith)

pub exchanged : (a b c d : ℕ) → bit_xor (bit_xor a b) (bit_xor c d) ≡ bit_xor (bit_xor a c) (bit_xor b d)
exchanged a b c d =
    xor_assoc a b (bit_xor c d) ∙ ap (bit_xor a) (sym (xor_assoc b c d) ∙ ap (λ x. bit_xor x d) (xor_comm b c) ∙ xor_assoc c b d)
    ∙ sym (xor_assoc a c (bit_xor b d))

pub bit_out-xor : (p a b : ℕ) → bit_out p (bit_xor a b) ≡ bit_xor (bit_out p a) (bit_out p b)
bit_out-xor p a b =
    let low = one_bit p (a % 2) (b % 2) (omega arith) (omega arith) in
    ap (λ x. bit_xor x (bit_xor a b % 2 * p)) (xor_shr a b 1)
    ∙ ap (λ x. bit_xor (bit_xor (a / 2) (b / 2)) (x * p)) (xor_mod a b 1)
    ∙ ap (bit_xor (bit_xor (a / 2) (b / 2))) low
    ∙ exchanged (a / 2) (b / 2) (a % 2 * p) (b % 2 * p)

pub bits_out-xor : (p n a b : ℕ) → bits_out p n (bit_xor a b) ≡ bit_xor (bits_out p n a) (bits_out p n b)
bits_out-xor p zero a b = refl
bits_out-xor p (suc n) a b = ap (bits_out p n) (bit_out-xor p a b) ∙ bits_out-xor p n (bit_out p a) (bit_out p b)

-- bits that are not set go out without a trace
pub bit_out-even : (p y : ℕ) → bit_out p (2 * y) ≡ y
bit_out-even p y =
    let half : 2 * y / 2 ≡ y = omega arith in
    let low : 2 * y % 2 ≡ 0 = omega arith in
    ap (λ bit. bit_xor (2 * y / 2) (bit * p)) low ∙ ap (bit_xor (2 * y / 2)) (nothing p) ∙ xor_zero_r (2 * y / 2) ∙ half

pub unset_out : (p word : ℕ) → word % 2 ≢ 1 → word / 2 ≡ bit_out p word
unset_out p word unset =
    let low : word % 2 ≡ 0 = omega arith in
    sym (ap (λ bit. bit_xor (word / 2) (bit * p)) low ∙ ap (bit_xor (word / 2)) (nothing p) ∙ xor_zero_r (word / 2))

pub moved_down : (p n h : ℕ) → bits_out p n (2 ^ n * h) ≡ h
moved_down p zero h = omega arith
moved_down p (suc n) h =
    let twice = ap (λ m. m * h) (pow-succ' 2 n) ∙ mul_assoc 2 (2 ^ n) h in
    ap (bits_out p n) (ap (bit_out p) twice ∙ bit_out-even p (2 ^ n * h)) ∙ moved_down p n h

-- a number below a power of two is xored into the multiples of that power as it is added
pub low_and_high : (k low high : ℕ) → low < 2 ^ k → bit_xor low (2 ^ k * high) ≡ low + 2 ^ k * high
low_and_high k low high small =
    let turned : 2 ^ k * high ≡ high * 2 ^ k = mul_comm (2 ^ k) high in
    let sum : high * 2 ^ k + low ≡ low + 2 ^ k * high = omega (arith, turned) in
    xor_comm low (2 ^ k * high) ∙ ap (λ n. bit_xor n low) turned ∙ xor_shifted high k low small ∙ sum

-- a word is its low byte and the rest
low_and_rest : (x : ℕ) → x ≡ bit_xor (x % 256) (256 * (x / 256))
low_and_rest x =
    let parts : x ≡ x % 256 + 256 * (x / 256) = omega arith in
    parts ∙ sym (low_and_high 8 (x % 256) (x / 256) (omega arith))

-- a word's eight low bits go out by themselves, and the others move down
pub by_table : (p x : ℕ) → bit_xor (bits_out p 8 (x % 256)) (x / 256) ≡ bits_out p 8 x
by_table p x =
    ap (bit_xor (bits_out p 8 (x % 256))) (sym (moved_down p 8 (x / 256)))
    ∙ sym (bits_out-xor p 8 (x % 256) (256 * (x / 256))) ∙ ap (bits_out p 8) (sym (low_and_rest x))

-- the word that a set bit went out of: its highest bit is the polynomial's, so there is room for one more
pub bit_in_set : (p x : ℕ) → p / 2 ^ 31 ≡ 1 → x < 2 ^ 32 → x / 2 ^ 31 ≡ 1 → bit_out p (bit_xor x p * 2 % 2 ^ 32 + 1) ≡ x
bit_in_set p x highest known high =
    let y = bit_xor x p in
    let none : y / 2 ^ 31 ≡ 0 = xor_shr x p 31 ∙ ap₂ bit_xor high highest in
    let half : (y * 2 % 2 ^ 32 + 1) / 2 ≡ y = omega (arith, none) in
    let low : (y * 2 % 2 ^ 32 + 1) % 2 ≡ 1 = omega (arith, none) in
    let taken : (y * 2 % 2 ^ 32 + 1) % 2 * p ≡ p = ap (λ bit. bit * p) low ∙ omega arith in
    ap₂ bit_xor half taken ∙ xor_twice x p

-- the word that a bit went out of that was not set
pub bit_in_unset : (p x : ℕ) → x / 2 ^ 31 ≢ 1 → x < 2 ^ 32 → bit_out p (x * 2 % 2 ^ 32) ≡ x
bit_in_unset p x unset known =
    let twice : x * 2 % 2 ^ 32 ≡ 2 * x = omega arith in
    ap (bit_out p) twice ∙ bit_out-even p x
