-- What bytes add to a sum, by the words that they stand in.
use Rattle.std.proofs.lemmas.Grind.{common_steps}
use Rattle.std.proofs.lemmas.Bool.Decides.{nat_tests}
use Rattle.std.proofs.Common.{rules}
use Rattle.hash_map_keys.proofs.Common.{All-cons, All-nil, All-take, IsByte, IsText, IsText-le_bytes, IsText-to_le_bytes, List, MapHasher, None, Option, Position, Some, [], add_comm, after, after_write, answer_of, ap, append-nil, ap₂, arith, as_word, byte_in, cases_lt, drop, drop-append-add, drop-append-le, drop_min, drop_of_length-le, fold-append, inl, inr, le, le-append, le-begins, le-le_bytes, le-ltb, le-power, le-same, le-to_le_bytes-64, le_bytes, length, length-append, length-drop, length-le_bytes, length-take, length-take-le, lt-ltb, min, mod-eq_of_lt, mul-le, nil_from_length, poly_end, pow-add, pow_mono, pow_pos, prime61, refl, rest_after, share, shr_high, slice_index, start_at, subst, suc, sym, take, take-append-add, take-append-drop, take-append-le, take-length, take_all, take_min, to_le_bytes, w64, word_of, ℕ, ◌%◌, ◌*◌, ◌++◌, ◌+◌, ◌-◌, ◌/◌, ◌<◌, ◌^◌, ◌∙◌, ◌∷◌, ◌≡◌, ◌≢◌, ◌≤◌}

-- ---- sums

pub share-append : (t : List ℕ) (at : ℕ) (xs ys : List ℕ) → share t at (xs ++ ys) ≡ share t at xs + share t (at + length xs) ys
unfolding share
share-append t at [] ys = omega (arith, ap (λ k. share t k ys) (let e : at ≡ at + 0 = omega arith in e))
share-append t at (x ∷ xs) ys = grind (arith, nat_tests, common_steps, share-append t (suc at) xs ys)

next_place : (o : ℕ) → 2 ^ (8 * suc o) ≡ 2 ^ (8 * o) * 256
next_place o = ap (λ k. 2 ^ k) (let e : 8 * suc o ≡ 8 * o + 8 = omega arith in e) ∙ pow-add 2 (8 * o) 8

one_more : (m x l p : ℕ) → m * (x * p) + m * (l * (p * 256)) ≡ m * ((x + 256 * l) * p)
one_more m x l p = omega arith

-- bytes within one word
pub piece_in : (t : List ℕ) (at : ℕ) (xs : List ℕ) → at % 8 + length xs ≤ 8
    → share t at xs ≡ slice_index t (at / 8) * (le xs * 2 ^ (8 * (at % 8)))
unfolding share le
piece_in t at [] few = omega arith
piece_in t at (x ∷ []) few = omega arith
piece_in t at (x ∷ y ∷ ys) few =
    let word : suc at / 8 ≡ at / 8 = omega (arith, few) in
    let place : suc at % 8 ≡ suc (at % 8) = omega (arith, few) in
    let others : share t (suc at) (y ∷ ys) ≡ slice_index t (at / 8) * (le (y ∷ ys) * (2 ^ (8 * (at % 8)) * 256)) =
    piece_in t (suc at) (y ∷ ys) (omega (arith, few, place))
    ∙ ap₂ (λ j o. slice_index t j * (le (y ∷ ys) * 2 ^ (8 * o))) word place
    ∙ ap (λ p. slice_index t (at / 8) * (le (y ∷ ys) * p)) (next_place (at % 8)) in
    ap (λ z. slice_index t (at / 8) * (x * 2 ^ (8 * (at % 8))) + z) others
    ∙ one_more (slice_index t (at / 8)) x (le (y ∷ ys)) (2 ^ (8 * (at % 8)))

-- a number at its place in a word leaves nothing out
pub placed : (xs : List ℕ) (o : ℕ) → IsText xs → o + length xs ≤ 8 → le xs * 2 ^ (8 * o) % 2 ^ 64 ≡ le xs * 2 ^ (8 * o)
placed xs o are few =
    let small = le-power xs are in
    let rise = mul-le (suc (le xs)) (2 ^ (8 * o)) (2 ^ (8 * length xs)) (2 ^ (8 * o)) small (omega arith) in
    let power : 2 ^ (8 * length xs) * 2 ^ (8 * o) ≤ 2 ^ 64 =
    let most : 2 ^ (8 * length xs + 8 * o) ≤ 2 ^ 64 = pow_mono (let l : 8 * length xs + 8 * o ≤ 64 = omega (arith, few) in l) in
    omega (arith, most, pow-add 2 (8 * length xs) (8 * o)) in
    mod-eq_of_lt (let l : le xs * 2 ^ (8 * o) < 2 ^ 64 = omega (arith, rise, power, pow_pos (8 * o)) in l)

-- a piece in, and the rest
pub piece_more : (t : List ℕ) (sum at k number : ℕ) (rest : List ℕ) → IsText (take k rest) → number ≡ le (take k rest) → k ≤ length rest
    → at % 8 + k ≤ 8
    → ((sum + slice_index t (at / 8) * (number * 2 ^ (8 * (at % 8)) % 2 ^ 64)) % 2 ^ 128 + share t (at + k) (drop k rest)) % 2 ^ 128
    ≡ (sum + share t at rest) % 2 ^ 128
piece_more t sum at k number rest are value within few =
    let long = length-take-le k rest within in
    let room : at % 8 + length (take k rest) ≤ 8 = omega (arith, long, few) in
    let whole : number * 2 ^ (8 * (at % 8)) % 2 ^ 64 ≡ le (take k rest) * 2 ^ (8 * (at % 8)) =
    ap (λ n. n * 2 ^ (8 * (at % 8)) % 2 ^ 64) value ∙ placed (take k rest) (at % 8) are room in
    let piece : slice_index t (at / 8) * (number * 2 ^ (8 * (at % 8)) % 2 ^ 64) ≡ share t at (take k rest) =
    ap (λ n. slice_index t (at / 8) * n) whole ∙ sym (piece_in t at (take k rest) room) in
    grind (arith, nat_tests, common_steps, take-append-drop k rest, share-append t at (take k rest) (drop k rest))

-- no more than eight bytes, which begin a word
pub one_word : (t : List ℕ) (j : ℕ) (bytes : List ℕ) → length bytes ≤ 8 → share t (8 * j) bytes ≡ slice_index t j * le bytes
one_word t j bytes few = grind (arith, nat_tests, common_steps, piece_in)

pub word_last : (t : List ℕ) (sum j number : ℕ) (rest : List ℕ) → number ≡ le rest → length rest ≤ 8
    → (sum + slice_index t j * number) % 2 ^ 128 ≡ (sum + share t (8 * j) rest) % 2 ^ 128
word_last t sum j number rest value few =
    ap (λ z. (sum + z) % 2 ^ 128) (ap (λ n. slice_index t j * n) value ∙ sym (one_word t j rest few))

-- a word in, and the rest
pub word_more : (t : List ℕ) (sum j number : ℕ) (rest : List ℕ) → number ≡ le (take 8 rest) → 8 ≤ length rest
    → ((sum + slice_index t j * number) % 2 ^ 128 + share t (8 * (j + 1)) (drop 8 rest)) % 2 ^ 128 ≡ (sum + share t (8 * j) rest) % 2 ^ 128
word_more t sum j number rest value within =
    let long = length-take-le 8 rest within in
    let piece : slice_index t j * number ≡ share t (8 * j) (take 8 rest) =
    ap (λ n. slice_index t j * n) value ∙ sym (one_word t j (take 8 rest) (omega (arith, long))) in
    grind (arith, nat_tests, common_steps, take-append-drop 8 rest, share-append t (8 * j) (take 8 rest) (drop 8 rest))

-- a word in, and the last bytes
pub last_two : (t : List ℕ) (sum j number last : ℕ) (bytes more : List ℕ) → number ≡ le (take 8 bytes) → 8 ≤ length bytes → more ≡ drop 8 bytes
    → last ≡ le (drop (length bytes - length more) bytes) → length more ≤ 8
    → ((sum + slice_index t j * number) % 2 ^ 128 + slice_index t (j + 1) * last) % 2 ^ 128 ≡ (sum + share t (8 * j) bytes) % 2 ^ 128
last_two t sum j number last bytes more value within cut end few = search (rules, length-drop, word_last, word_more)

pub nothing_more : (t : List ℕ) (at : ℕ) → share t at [] ≡ 0
unfolding share
nothing_more t at = refl

-- ---- the bytes behind the first 128

pub rest_some : (key : ℕ) (at : Position) (bytes : List ℕ) → bytes ≢ [] → rest_after key (Some at) bytes ≡ Some (after at bytes)
unfolding rest_after
rest_some key at [] some = absurd (some refl)
rest_some key at (byte ∷ bytes) some = refl

pub rest_none : (key : ℕ) (bytes : List ℕ) → bytes ≢ [] → rest_after key None bytes ≡ Some (after (start_at (key % prime61)) bytes)
unfolding rest_after
rest_none key [] some = absurd (some refl)
rest_none key (byte ∷ bytes) some = refl

pub rest_same : (key : ℕ) (rest : Option Position) → rest_after key rest [] ≡ rest
unfolding rest_after
rest_same key None = refl
rest_same key (Some at) = refl

pub rest_joined : (key : ℕ) (rest : Option Position) (a b : List ℕ) → rest_after key (rest_after key rest a) b ≡ rest_after key rest (a ++ b)
unfolding rest_after
rest_joined key rest [] b = ap (λ r. rest_after key r b) (rest_same key rest)
rest_joined key rest (x ∷ a) [] = rest_same key (rest_after key rest (x ∷ a)) ∙ ap (rest_after key rest) (sym (append-nil (x ∷ a)))
rest_joined key None (x ∷ a) (y ∷ b) = ap (λ p. Some p) (sym (fold-append byte_in (start_at (key % prime61)) (x ∷ a) (y ∷ b)))
rest_joined key (Some at) (x ∷ a) (y ∷ b) = ap (λ p. Some p) (sym (fold-append byte_in at (x ∷ a) (y ∷ b)))

-- ---- the answer

pub high_only : (h : MapHasher) → h.sum < 2 ^ 128 → h.sum / 2 ^ 64 ≡ (h.sum + slice_index h.keys.now.multipliers 16 * 0) % 2 ^ 128 / 2 ^ 64
high_only h within =
    ap (λ z. z / 2 ^ 64) (let e : h.sum ≡ (h.sum + slice_index h.keys.now.multipliers 16 * 0) % 2 ^ 128 = omega (arith, within) in e)

pub answer_short : (h : MapHasher) → h.held ≤ 128 → h.sum < 2 ^ 128 → h.sum / 2 ^ 64 ≡ answer_of h
answer_short h few within = grind (arith, nat_tests, common_steps, high_only, le-ltb)

pub answer_long : (h : MapHasher) (word : ℕ) → 128 < h.held → word ≡ word_of h.rest
    → (h.sum + slice_index h.keys.now.multipliers 16 * word) % 2 ^ 128 / 2 ^ 64 ≡ answer_of h
answer_long h word many is = grind (arith, nat_tests, common_steps, lt-ltb)

pub word_some : (rest : Option Position) (at : Position) → rest ≡ Some at → as_word (poly_end at) ≡ word_of rest
unfolding word_of
word_some rest at some = ap word_of (sym some)

pub word_none : (rest : Option Position) → rest ≡ None → 0 ≡ word_of rest
unfolding word_of
word_none rest none = ap word_of (sym none)

-- ---- a hasher after a write

abbrev key_of : MapHasher → ℕ
key_of h = h.keys.now.text_key

abbrev with_parts : MapHasher → (sum held : ℕ) → Option Position → MapHasher
with_parts h sum held rest = record h { sum = sum; held = held; rest = rest }

same_parts : (h : MapHasher) (sum sum2 held held2 : ℕ) (rest rest2 : Option Position) → sum ≡ sum2 → held ≡ held2 → rest ≡ rest2
    → with_parts h sum held rest ≡ with_parts h sum2 held2 rest2
same_parts h sum sum2 held held2 rest rest2 one two three =
    ap₂ (λ (s k : ℕ). with_parts h s k rest) one two ∙ ap (λ r. with_parts h sum2 held2 r) three

-- bytes of which the first that there is room for were taken in
pub first_part : (h : MapHasher) (bytes first more : List ℕ) (k sum held : ℕ) (rest : Option Position) → k ≡ min (length bytes) (128 - h.held)
    → first ≡ take k bytes → more ≡ drop k bytes → sum ≡ (h.sum + share h.keys.now.multipliers h.held first) % 2 ^ 128
    → held ≡ min 129 (h.held + length bytes) → rest ≡ rest_after (key_of h) h.rest more
    → with_parts h sum held rest ≡ after_write h bytes
first_part h bytes first more k sum held rest count front back value counted behind =
    grind (arith, nat_tests, common_steps, take_min, drop_min, same_parts)

-- bytes for none of which there is room
pub no_part : (h : MapHasher) (bytes : List ℕ) (held : ℕ) (rest : Option Position) → 128 ≤ h.held → h.sum < 2 ^ 128
    → held ≡ min 129 (h.held + length bytes) → rest ≡ rest_after (key_of h) h.rest bytes
    → with_parts h h.sum held rest ≡ after_write h bytes
no_part h bytes held rest full within counted behind = grind (arith, nat_tests, common_steps, nothing_more, first_part)

-- bytes for all of which there is room
pub all_part : (h : MapHasher) (bytes : List ℕ) (sum k : ℕ) → h.held + k ≤ 128 → length bytes ≡ k
    → sum ≡ (h.sum + share h.keys.now.multipliers h.held bytes) % 2 ^ 128
    → with_parts h sum (h.held + k) h.rest ≡ after_write h bytes
all_part h bytes sum k room long value =
    grind (arith, nat_tests, common_steps, nil_from_length, length-drop, first_part, take-length, rest_same)

-- ---- a number's bytes

pub begins : (count number : ℕ) → count ≤ 8 → number < 2 ^ (8 * count) → take count (to_le_bytes w64 number) ≡ le_bytes count number
unfolding le_bytes
begins count number short within =
    let small : number < 2 ^ 64 =
    let most : 2 ^ (8 * count) ≤ 2 ^ 64 = pow_mono (let l : 8 * count ≤ 64 = omega (arith, short) in l) in
    omega (arith, within, most) in
    let long = length-le_bytes count number in
    search (rules, le-begins, IsText-le_bytes, IsText-to_le_bytes, length-le_bytes, le-le_bytes, le-to_le_bytes-64)

pub number_part : (h : MapHasher) (number count sum : ℕ) → h.held < 128 → h.held % 8 + count ≤ 8 → number < 2 ^ (8 * count)
    → sum ≡ (h.sum + slice_index h.keys.now.multipliers (h.held / 8) * (number * 2 ^ (8 * (h.held % 8)) % 2 ^ 64)) % 2 ^ 128
    → with_parts h sum (h.held + count) h.rest ≡ after_write h (le_bytes count number)
number_part h number count sum room short within value =
    grind (arith, nat_tests, common_steps, length-le_bytes, le-le_bytes, placed, IsText-le_bytes, piece_in, all_part)

pub one_byte : (number : ℕ) → number < 256 → le_bytes 1 number ≡ number ∷ []
unfolding le
one_byte number within = grind (arith, nat_tests, common_steps, le-same, IsText-le_bytes, All-cons, All-nil, length-le_bytes, le-le_bytes)

-- a number in two words
pub spill_part : (h : MapHasher) (number count sum : ℕ) → h.held + count ≤ 128 → 8 < h.held % 8 + count → count ≤ 8 → number < 2 ^ (8 * count)
    → sum ≡ ((h.sum + slice_index h.keys.now.multipliers (h.held / 8) * (number * 2 ^ (8 * (h.held % 8)) % 2 ^ 64)) % 2 ^ 128
    + slice_index h.keys.now.multipliers (h.held / 8 + 1) * (number / 2 ^ (64 - 8 * (h.held % 8)))) % 2 ^ 128
    → with_parts h sum (h.held + count) h.rest ≡ after_write h (le_bytes count number)
spill_part h number count sum room over short within value =
    let t = h.keys.now.multipliers in
    let o = h.held % 8 in
    let k = 8 - o in
    let bytes = le_bytes count number in
    let long = length-le_bytes count number in
    let first = take k bytes in
    let more = drop k bytes in
    let k_in : k ≤ length bytes = omega (arith, over, long) in
    let first_long : length first ≡ k = length-take-le k bytes k_in in
    let first_is = All-take IsByte k bytes (IsText-le_bytes count number) in
    let whole : number ≡ le first + le more * 2 ^ (8 * k) =
    sym (le-le_bytes count number within) ∙ ap le (sym (take-append-drop k bytes)) ∙ le-append first more
    ∙ ap (λ n. le first + le more * 2 ^ (8 * n)) first_long in
    let below : le first < 2 ^ (8 * k) = subst (λ n. le first < 2 ^ (8 * n)) first_long (le-power first first_is) in
    let word : 2 ^ (8 * k) * 2 ^ (8 * o) ≡ 2 ^ 64 =
    sym (pow-add 2 (8 * k) (8 * o)) ∙ ap (λ n. 2 ^ n) (let e : 8 * k + 8 * o ≡ 64 = omega arith in e) in
    let low : number * 2 ^ (8 * o) % 2 ^ 64 ≡ le first * 2 ^ (8 * o) % 2 ^ 64 =
    let product = ap (λ n. n * 2 ^ (8 * o)) whole in
    let upper = ap (λ n. le more * n) word in
    omega (arith, product, upper) in
    let bits : 64 - 8 * o ≡ 8 * k = omega arith in
    let high : number / 2 ^ (64 - 8 * o) ≡ le more =
    ap₂ (λ n b. n / 2 ^ b) (whole ∙ add_comm (le first) (le more * 2 ^ (8 * k))) bits ∙ shr_high (le more) (8 * k) (le first) below in
    let s = (h.sum + slice_index t (h.held / 8) * (le first * 2 ^ (8 * o) % 2 ^ 64)) % 2 ^ 128 in
    let next : 8 * (h.held / 8 + 1) ≡ h.held + k = omega arith in
    let few : length more ≤ 8 = omega (arith, length-drop k bytes, long, short) in
    let second : (s + slice_index t (h.held / 8 + 1) * le more) % 2 ^ 128 ≡ (s + share t (h.held + k) more) % 2 ^ 128 =
    word_last t s (h.held / 8 + 1) (le more) more refl few ∙ ap (λ a. (s + share t a more) % 2 ^ 128) next in
    grind (arith, nat_tests, common_steps, all_part, piece_more)

-- ---- two writes are one

-- the first r bytes of two texts joined, and those behind them
front : (r : ℕ) (text piece : List ℕ) → take r (text ++ piece) ≡ take r text ++ take (r - length (take r text)) piece
front r text piece = elim (cases_lt r (length text)) [
  | inl many ↦
      let all : length (take r text) ≡ r = length-take-le r text (omega (arith, many)) in
      take-append-le r text piece (omega (arith, many)) ∙ sym (append-nil (take r text))
      ∙ ap (λ n. take r text ++ take n piece) (let e : 0 ≡ r - length (take r text) = omega (arith, all) in e)
  | inr few ↦
      let whole : take r text ≡ text = take_all r text few in
      let n = r - length text in
      ap (λ k. take k (text ++ piece)) (let e : r ≡ length text + n = omega (arith, few) in e) ∙ take-append-add text piece n
      ∙ ap (λ l. l ++ take (r - length l) piece) (sym whole)
]

back : (r : ℕ) (text piece : List ℕ) → drop r (text ++ piece) ≡ drop r text ++ drop (r - length (take r text)) piece
back r text piece = search (rules, cases_lt, length-take-le, drop-append-le, take_all, drop-append-add, drop_of_length-le)

-- what the second of two writes adds
seam : (t a b : List ℕ) (held : ℕ) → let r = 128 - held in
    share t (min 129 (held + length a)) (take (128 - min 129 (held + length a)) b) ≡ share t (held + length (take r a)) (take (r - length (take r a)) b)
seam t a b held = grind (arith, nat_tests, common_steps, length-take, cases_lt, nothing_more)

pub two_writes : (h : MapHasher) (a b : List ℕ) → after_write (after_write h a) b ≡ after_write h (a ++ b)
two_writes h a b = search (rules, length-take, front, share-append, same_parts, seam, length-append, rest_joined, back)
