-- A text in parts: powers by squares, the state behind whole words, and two texts joined.
use Rattle.std.proofs.lemmas.Bool.Decides.{nat_tests}
use Rattle.hash_keyed.proofs.Common.{ℕ, zero, suc, ◌≡◌, ◌≢◌, ◌+◌, ◌-◌, ◌*◌, ◌/◌, ◌%◌, ◌^◌, ◌<◌, List, [], ◌∷◌, ◌++◌, length, take, fold, refl, sym, ap, ap₂, ◌∙◌, inl, inr, arith, mod-mod, mod-add-mod, add-mul-mod_self_left, pow-zero, cases_lt, fold-append, mul-pow, pow-add, pow-mod, le, prime61, words, words_from, poly_step, poly_hash, poly_state, Position, byte_in, start_at, after, full_words, poly_end, as_word, joined_value, poly61, behind, byte_behind, byte_fills, byte_in-full, byte_in-part, poly_end-from, poly_end-is, pow-suc, length-append, common_steps}
use Rattle.hash_keyed.proofs.ByWords.{after-few}
use Rattle.hash_keyed.proofs.Collisions.{value-lt}
use Rattle.hash_keyed.proofs.Encoding.{length-words}
use Rattle.hash_keyed.proofs.Powers.{same-add, same-mul}

-- ---- powers

-- the square to a power
square-pow : (p s t k : ℕ) → t % p ≡ (s * s) % p → t ^ k % p ≡ s ^ (k + k) % p
square-pow p s t k same = grind (arith, nat_tests, common_steps, pow-mod t k p, pow-mod (s * s) k p, mul-pow s s k, pow-add s k k)

-- one digit of the exponent
pub power_odd : (p r q s t l : ℕ) → l % 2 ≡ 1 → q % p ≡ (r * s) % p → t % p ≡ (s * s) % p → (q * t ^ (l / 2)) % p ≡ (r * s ^ l) % p
power_odd p r q s t l odd product square =
    let k = l / 2 in
    let e : suc (k + k) ≡ l = omega arith in
    same-mul p q (t ^ k) (r * s) (s ^ (k + k)) product (square-pow p s t k square)
    ∙ ap (λ z. z % p) (let m : r * s * s ^ (k + k) ≡ r * (s ^ (k + k) * s) = omega arith in m)
    ∙ ap (λ z. (r * z) % p) (sym (pow-suc s (k + k)) ∙ ap (λ n. s ^ n) e)

pub power_even : (p r s t l : ℕ) → l % 2 ≢ 1 → t % p ≡ (s * s) % p → (r * t ^ (l / 2)) % p ≡ (r * s ^ l) % p
power_even p r s t l even square =
    let k = l / 2 in
    let e : k + k ≡ l = omega (arith, even) in
    same-mul p r (t ^ k) r (s ^ (k + k)) refl (square-pow p s t k square) ∙ ap (λ n. (r * s ^ n) % p) e

-- ---- whole words

-- behind whole words, all bytes are in the state
whole_there : (r key state : ℕ) (kept text : List ℕ) → r + length kept ≡ 6 → (length kept + length text) % 7 ≡ 0
    → after (behind key state kept) text
    ≡ behind key (fold (poly_step prime61 key) state (take ((length kept + length text) / 7) (words_from r kept text))) []
unfolding words_from
whole_there r key state [] [] room whole = refl
whole_there r key state (k ∷ kept) [] room whole = absurd (omega arith)
whole_there zero key state kept (byte ∷ text) room whole =
    let word = le (kept ++ byte ∷ []) in
    let count : suc ((0 + length text) / 7) ≡ (length kept + suc (length text)) / 7 = omega arith in
    ap (λ a. after a text) (byte_fills key state kept byte (omega arith))
    ∙ whole_there 6 key (poly_step prime61 key state word) [] text (omega arith) (omega arith)
    ∙ ap (λ n. behind key (fold (poly_step prime61 key) state (take n (word ∷ words_from 6 [] text))) []) count
whole_there (suc r) key state kept (byte ∷ text) room whole =
    let more = length-append kept (byte ∷ []) in
    let count : (length (kept ++ byte ∷ []) + length text) / 7 ≡ (length kept + suc (length text)) / 7 = omega (arith, more) in
    ap (λ a. after a text) (byte_behind key state kept byte (omega arith))
    ∙ whole_there r key state (kept ++ byte ∷ []) text (omega (arith, more)) (omega (arith, more))
    ∙ ap (λ n. behind key (fold (poly_step prime61 key) state (take n (words_from r (kept ++ byte ∷ []) text))) []) count

pub after-whole : (key : ℕ) (text : List ℕ) → length text % 7 ≡ 0 → after (start_at key) text ≡ behind key (poly_state prime61 key text) []
unfolding le
after-whole key text whole = grind (arith, nat_tests, common_steps, whole_there 6 key 1)

-- how many bytes are behind the full words
after-count : (at : Position) (text : List ℕ) → at.count < 7 → (after at text).count ≡ (at.count + length text) % 7
after-count at [] few = omega arith
after-count at (byte ∷ text) few = elim (cases_lt at.count 6) [
  | inl part ↦
      let one = ap (λ (a : Position). a.count) (byte_in-part at byte part) in
      omega (arith, one, after-count (byte_in at byte) text (omega (arith, one)))
  | inr full ↦
      let one = ap (λ (a : Position). a.count) (byte_in-full at byte full) in
      omega (arith, one, after-count (byte_in at byte) text (omega (arith, one)))
]

module _ (key t : ℕ) (text last : List ℕ) (led : after (full_words key 1) text
    ≡ after (full_words key t) last) (few : length last < 7) where
  pub rest-length : length text % 7 ≡ length last
  rest-length = grind (arith, nat_tests, common_steps, after-count, after-few)

  pub state_is : length last ≡ 0 → t % prime61 ≡ poly_state prime61 key text
  state_is none =
      ap (λ (a : Position). a.state) (sym (led ∙ after-few key t last few) ∙ after-whole key text (omega (arith, rest-length, none)))

-- ---- two texts joined

-- the state after words from any start
fold-from : (p key s : ℕ) (ws : List ℕ)
    → fold (poly_step p key) s ws % p ≡ (s * key ^ length ws + fold (poly_step p key) 0 ws) % p
fold-from p key s [] = ap (λ z. z % p) (let e : s ≡ s * 1 + 0 = omega arith in e ∙ ap (λ k. s * k + 0) (sym (pow-zero key)))
fold-from p key s (w ∷ ws) =
    let k = key ^ length ws in
    let rest = fold (poly_step p key) 0 ws in
    let high : (poly_step p key s w * k) % p ≡ ((s * key + w) * k) % p =
    same-mul p (poly_step p key s w) k (s * key + w) k (mod-mod (s * key + w) p) refl in
    let low : (w * k + rest) % p ≡ fold (poly_step p key) 0 (w ∷ ws) % p =
    same-add p (w * k) rest (poly_step p key 0 w * k) rest (same-mul p w k (poly_step p key 0 w) k (sym (mod-mod w p)
    ∙ ap (λ z. z % p % p) (let e : w ≡ 0 * key + w = omega arith in e)) refl) refl
    ∙ sym (fold-from p key (poly_step p key 0 w) ws) in
    fold-from p key (poly_step p key s w) ws
    ∙ same-add p (poly_step p key s w * k) rest ((s * key + w) * k) rest high refl
    ∙ ap (λ z. z % p) (let e : (s * key + w) * k + rest ≡ s * (k * key) + (w * k + rest) = omega arith in e)
    ∙ same-add p (s * (k * key)) (w * k + rest) (s * (k * key)) (fold (poly_step p key) 0 (w ∷ ws)) refl low
    ∙ ap (λ z. (s * z + fold (poly_step p key) 0 (w ∷ ws)) % p) (sym (pow-suc key (length ws)))

-- the low 61 bits of a hash are its value
value_in : (v : ℕ) → v < 2 ^ 61 → as_word v % 2 ^ 61 ≡ v
value_in v small = omega arith

-- what the second text has at the start 1, it has at the first one's state
pub joined-value : (key : ℕ) (x y : List ℕ) → length x % 7 ≡ 0
    → joined_value key (poly_state prime61 key x) (poly61 key y) (length y) ≡ poly_hash prime61 key (x ++ y)
unfolding le
joined-value key x y whole =
    let p = prime61 in
    let ws = words y in
    let n = length ws in
    let s = poly_state p key x in
    let rest = fold (poly_step p key) 0 ws in
    let k = key ^ n in
    let count : length y / 7 + 2 ≡ suc n = omega (arith, length-words y) in
    let power : key ^ (length y / 7 + 2) ≡ k * key = ap (λ e. key ^ e) count ∙ pow-suc key n in
    let second : poly61 key y % 2 ^ 61 ≡ poly_hash p key y = value_in (poly_hash p key y) (value-lt key y) in
    let at_one : poly_hash p key y % p ≡ ((1 * k + rest) * key) % p =
    mod-mod (fold (poly_step p key) 1 ws * key) p
    ∙ same-mul p (fold (poly_step p key) 1 ws) key (1 * k + rest) key (fold-from p key 1 ws) refl in
    let ring : (s + (p - 1)) * (k * key) + (1 * k + rest) * key ≡ (s * k + rest) * key + p * (k * key) = omega arith in
    ap₂ (λ a b. ((s + (p - 1)) * a + b) % p) power second
    ∙ same-add p ((s + (p - 1)) * (k * key)) (poly_hash p key y) ((s + (p - 1)) * (k * key)) ((1 * k + rest) * key) refl at_one
    ∙ ap (λ z. z % p) ring ∙ add-mul-mod_self_left ((s * k + rest) * key) p (k * key)
    ∙ sym (same-mul p (fold (poly_step p key) s ws) key (s * k + rest) key (fold-from p key s ws) refl)
    ∙ sym (poly_end-from key s y) ∙ ap (λ a. poly_end (after a y)) (sym (after-whole key x whole))
    ∙ ap poly_end (sym (fold-append byte_in (start_at key) x y)) ∙ poly_end-is key (x ++ y)

-- the code's sum, of reduced numbers
pub joined_is : (key state1 before power value hash2 e r : ℕ) → before ≡ (state1 % prime61 + (prime61 - 1)) % prime61
    → power % prime61 ≡ (key ^ e) % prime61 → value ≡ hash2 % 2 ^ 61 % prime61 → r ≡ (before * power + value) % prime61
    → r ≡ ((state1 + (prime61 - 1)) * key ^ e + hash2 % 2 ^ 61) % prime61
joined_is key state1 before power value hash2 e r before_is power_is value_is r_is =
    let p = prime61 in
    let first : before % p ≡ (state1 + (p - 1)) % p =
    ap (λ z. z % p) before_is ∙ mod-mod (state1 % p + (p - 1)) p ∙ mod-add-mod state1 p (p - 1) in
    let last : value % p ≡ hash2 % 2 ^ 61 % p = ap (λ z. z % p) value_is ∙ mod-mod (hash2 % 2 ^ 61) p in
    grind (arith, nat_tests, common_steps, same-mul p before power (state1 + (p - 1)) (key ^ e) first power_is)
