-- The words of a piece by their places.
use Rattle.hash_theorems.proofs.FxCommon.{ℕ, zero, suc, ◌≡◌, ◌+◌, ◌*◌, ◌/◌, ◌%◌, ◌<◌, ◌≤◌, List, ◌++◌, length, take, drop, map, get_or, refl, ap, ◌∙◌, arith, drop-drop, get_or-drop, length-drop, first_chunks, words32, words64, le, pieces, common_steps, nat_tests}

-- the chunks of n bytes as words, and what comes behind them
abbrev chunks_then : ℕ → ℕ → List ℕ → List ℕ → List ℕ
chunks_then n k text rest = map le (first_chunks n k text) ++ rest

word_at : (n k i : ℕ) (text rest : List ℕ) → i < k → get_or (chunks_then n k text rest) i 0 ≡ le (take n (drop (i * n) text))
word_at n zero i text rest below = absurd (omega arith)
word_at n (suc k) zero text rest below = let none : 0 * n ≡ 0 = omega arith in rw none refl
word_at n (suc k) (suc i) text rest below =
    let next : n + i * n ≡ suc i * n = omega arith in
    word_at n k i (drop n text) rest (omega arith) ∙ ap (λ t. le (take n t)) (drop-drop (i * n) n text ∙ ap (λ m. drop m text) next)

rest_at : (n k i : ℕ) (text rest : List ℕ) → get_or (chunks_then n k text rest) (k + i) 0 ≡ get_or rest i 0
rest_at n zero i text rest = let e : 0 + i ≡ i = omega arith in ap (λ m. get_or rest m 0) e
rest_at n (suc k) i text rest = grind (arith, nat_tests, common_steps, rest_at n k i (drop n text) rest, drop n text)

count : (n k : ℕ) (text rest : List ℕ) → length (chunks_then n k text rest) ≡ k + length rest
count n zero text rest = omega arith
count n (suc k) text rest = omega (arith, count n k (drop n text) rest)

-- ---- by 32 bits

pub fours32 : (piece : List ℕ) (i : ℕ) → i < length piece / 4 → get_or (words32 piece) i 0 ≡ le (take 4 (drop (i * 4) piece))
unfolding pieces
fours32 piece i below = word_at 4 (length piece / 4) i piece (drop (length piece / 4 * 4) piece) below

pub bytes32 : (piece : List ℕ) (i : ℕ) → get_or (words32 piece) (length piece / 4 + i) 0 ≡ get_or piece (length piece / 4 * 4 + i) 0
unfolding pieces
bytes32 piece i =
    rest_at 4 (length piece / 4) i piece (drop (length piece / 4 * 4) piece) ∙ get_or-drop (length piece / 4 * 4) piece i 0

pub count32 : (piece : List ℕ) → length (words32 piece) ≡ length piece / 4 + length piece % 4
unfolding pieces
count32 piece =
    omega (arith, count 4 (length piece / 4) piece (drop (length piece / 4 * 4) piece), length-drop (length piece / 4 * 4) piece)

-- ---- by 64 bits

abbrev rest_of : List ℕ → List ℕ
rest_of piece = drop (length piece / 8 * 8) piece

rest_len : (piece : List ℕ) → length (rest_of piece) ≡ length piece % 8
rest_len piece = omega (arith, length-drop (length piece / 8 * 8) piece)

pub eights64 : (piece : List ℕ) (i : ℕ) → i < length piece / 8 → get_or (words64 piece) i 0 ≡ le (take 8 (drop (i * 8) piece))
unfolding pieces
eights64 piece i below = word_at 8 (length piece / 8) i piece (words32 (rest_of piece)) below

behind64 : (piece : List ℕ) (i : ℕ) → get_or (words64 piece) (length piece / 8 + i) 0 ≡ get_or (words32 (rest_of piece)) i 0
unfolding pieces
behind64 piece i = rest_at 8 (length piece / 8) i piece (words32 (rest_of piece))

pub four64 : (piece : List ℕ) → 4 ≤ length piece % 8 → get_or (words64 piece) (length piece / 8) 0
    ≡ le (take 4 (drop (length piece / 8 * 8) piece))
four64 piece some =
    let first : length piece / 8 ≡ length piece / 8 + 0 = omega arith in
    let here : 0 < length (rest_of piece) / 4 = omega (arith, some, rest_len piece) in
    ap (λ m. get_or (words64 piece) m 0) first ∙ behind64 piece 0 ∙ fours32 (rest_of piece) 0 here

pub bytes64 : (piece : List ℕ) (i : ℕ)
    → get_or (words64 piece) (length piece / 8 + length piece % 8 / 4 + i) 0 ≡ get_or piece (length piece / 4 * 4 + i) 0
bytes64 piece i =
    let rest = rest_of piece in
    let size = rest_len piece in
    let place : length piece / 8 + length piece % 8 / 4 + i ≡ length piece / 8 + (length rest / 4 + i) = omega (arith, size) in
    grind (arith, nat_tests, common_steps, behind64, bytes32, get_or-drop)

pub count64 : (piece : List ℕ) → length (words64 piece) ≡ length piece / 8 + length piece % 8 / 4 + length piece % 4
unfolding pieces
count64 piece =
    omega (arith, count 8 (length piece / 8) piece (words32 (rest_of piece)), count32 (rest_of piece), rest_len piece)
