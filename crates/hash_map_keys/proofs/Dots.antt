-- The words of a key of a map, and what its bytes add to the sum.
use Rattle.std.proofs.lemmas.Grind.{common_steps}
use Rattle.std.proofs.lemmas.Bool.Decides.{nat_tests}
use Rattle.std.proofs.Common.{rules}
use Rattle.hash_map_keys.proofs.Common.{All, All-append, All-cons, All-drop, All-nil, All-take, AreWords, IsByte, IsText, List, None, [], ap, ap₂, arith, cases_lt, dot, drop, drop_of_length-le, eights, if◌then◌else◌, inl, inr, key_words, last_word, le, le-few, le-ltb, length, length-append, length-take, length-take-le, lt-ltb, min, nat_lt, poly61, poly61-is, prime61, refl, rest_after, share, slice_index, suc, sym, take, take-add, take_all, word_of, zero, ℕ, ◌%◌, ◌*◌, ◌++◌, ◌+◌, ◌<◌, ◌^◌, ◌∙◌, ◌∷◌, ◌≡◌, ◌≤◌}
use Rattle.hash_map_keys.proofs.Shares.{nothing_more, one_word, share-append}

-- ---- products by place

pub dot_at : List ℕ → ℕ → List ℕ → ℕ
dot_at t j [] = 0
dot_at t j (w ∷ ws) = slice_index t j * w + dot_at t (suc j) ws

none_at : (j : ℕ) (ws : List ℕ) → dot_at [] j ws ≡ 0
unfolding dot_at
none_at j [] = refl
none_at j (w ∷ ws) = omega (arith, none_at (suc j) ws)

next_at : (a : ℕ) (t : List ℕ) (j : ℕ) (ws : List ℕ) → dot_at (a ∷ t) (suc j) ws ≡ dot_at t j ws
unfolding dot_at
next_at a t j [] = refl
next_at a t j (w ∷ ws) = ap (λ z. slice_index t j * w + z) (next_at a t (suc j) ws)

pub dot-at : (t ws : List ℕ) → dot t ws ≡ dot_at t 0 ws
unfolding dot dot_at
dot-at [] ws = sym (none_at 0 ws)
dot-at (a ∷ t) [] = refl
dot-at (a ∷ t) (w ∷ ws) = ap (λ z. a * w + z) (dot-at t ws ∙ sym (next_at a t 0 ws))

last_at : (t : List ℕ) (j : ℕ) (ws : List ℕ) (w : ℕ) → dot_at t j (ws ++ (w ∷ [])) ≡ dot_at t j ws + slice_index t (j + length ws) * w
unfolding dot_at
last_at t j [] w = omega (arith, ap (λ k. slice_index t k * w) (let e : j ≡ j + 0 = omega arith in e))
last_at t j (v ∷ ws) w =
    omega (arith, last_at t (suc j) ws w, ap (λ k. slice_index t k * w) (let e : suc j + length ws ≡ j + suc (length ws) = omega arith in e))

pub length-eights : (n : ℕ) (bytes : List ℕ) → length (eights n bytes) ≡ n
unfolding eights
length-eights zero bytes = refl
length-eights (suc n) bytes = omega (arith, length-eights n (drop 8 bytes))

pub eights_share : (t : List ℕ) (n j : ℕ) (bytes : List ℕ) → dot_at t j (eights n bytes) ≡ share t (8 * j) (take (8 * n) bytes)
unfolding dot_at eights
eights_share t zero j bytes = sym (nothing_more t (8 * j))
eights_share t (suc n) j bytes =
    let first = take 8 bytes in
    let more = take (8 * n) (drop 8 bytes) in
    let split : take (8 * suc n) bytes ≡ first ++ more =
    ap (λ k. take k bytes) (let e : 8 * suc n ≡ 8 + 8 * n = omega arith in e) ∙ take-add 8 (8 * n) bytes in
    let few : length first ≤ 8 = omega (arith, length-take 8 bytes) in
    let others : share t (8 * suc j) more ≡ share t (8 * j + length first) more =
    grind (arith, nat_tests, common_steps, cases_lt, length-take-le, drop_of_length-le, take_all, nothing_more) in
    ap (λ z. slice_index t j * le first + z) (eights_share t n (suc j) (drop 8 bytes) ∙ others)
    ∙ ap (λ z. z + share t (8 * j + length first) more) (sym (one_word t j first few))
    ∙ sym (share-append t (8 * j) first more) ∙ ap (share t (8 * j)) (sym split)

-- the seventeen words times the multipliers
pub key_dot : (t : List ℕ) (key : ℕ) (bytes : List ℕ)
    → dot t (key_words key bytes) ≡ share t 0 (take 128 bytes) + slice_index t 16 * last_word key (drop 128 bytes)
key_dot t key bytes =
    let w = last_word key (drop 128 bytes) in
    dot-at t (key_words key bytes) ∙ last_at t 0 (eights 16 bytes) w
    ∙ ap₂ (λ a n. a + slice_index t n * w) (eights_share t 16 0 bytes)
    (let e : 0 + length (eights 16 bytes) ≡ 16 = omega (arith, length-eights 16 bytes) in e)

-- ---- they are words

eights_are : (n : ℕ) (bytes : List ℕ) → IsText bytes → All (λ w. w < 2 ^ 64) (eights n bytes)
unfolding eights
eights_are zero bytes are = All-nil (λ w. w < 2 ^ 64)
eights_are (suc n) bytes are =
    All-cons (λ w. w < 2 ^ 64) (le (take 8 bytes)) (eights n (drop 8 bytes))
    (le-few 8 (take 8 bytes) (All-take IsByte 8 bytes are) (omega (arith, length-take 8 bytes)))
    (eights_are n (drop 8 bytes) (All-drop IsByte 8 bytes are))

poly61_in : (key : ℕ) (text : List ℕ) → poly61 key text < 2 ^ 64
poly61_in key text = omega (arith, poly61-is key text)

last_in : (key : ℕ) (bytes : List ℕ) → last_word key bytes < 2 ^ 64
unfolding last_word
last_in key [] = omega arith
last_in key (byte ∷ bytes) = poly61_in key (byte ∷ bytes)

pub key_words_are : (key : ℕ) (bytes : List ℕ) → IsText bytes → AreWords 17 (key_words key bytes)
key_words_are key bytes are = search (rules, length-append, length-eights, All-append, eights_are, All-cons, last_in, All-nil)

-- ---- the bytes behind the first 128

pub rest_word : (key : ℕ) (more : List ℕ) → word_of (rest_after key None more) ≡ last_word (key % prime61) more
unfolding rest_after word_of last_word
rest_word key [] = refl
rest_word key (byte ∷ bytes) = sym (poly61-is (key % prime61) (byte ∷ bytes))

-- the word of an answer, by how many bytes there were
pub word_is : (key : ℕ) (bytes : List ℕ)
    → (if nat_lt 128 (min 129 (0 + length bytes)) then word_of (rest_after key None (drop 128 bytes)) else 0) ≡ last_word (key % prime61) (drop 128 bytes)
unfolding last_word
word_is key bytes =
    let w = word_of (rest_after key None (drop 128 bytes)) in
    let held = min 129 (0 + length bytes) in
    elim (cases_lt 128 (length bytes)) [
      | inl many ↦ ap (λ b. if b then w else 0) (lt-ltb 128 held (omega (arith, many))) ∙ rest_word key (drop 128 bytes)
      | inr few ↦ ap (λ b. if b then w else 0) (le-ltb 128 held (omega (arith, few))) ∙ sym (ap (last_word (key % prime61)) (drop_of_length-le bytes few))
    ]
