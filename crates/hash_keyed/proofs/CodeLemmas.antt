-- What the code's steps compute.
use Rattle.std.proofs.lemmas.Bool.Decides.{nat_tests}
use Rattle.std.proofs.Common.{rules}
use Rattle.hash_keyed.proofs.Common.{ℕ, ◌≡◌, ◌+◌, ◌*◌, ◌/◌, ◌%◌, ◌^◌, ◌<◌, ◌≤◌, List, [], ◌∷◌, ◌++◌, length, take, drop, get_or, sym, ap, ap₂, ◌∙◌, arith, le_of_eq, length-drop, refl, pow_mono, mod-mod, mul-mod_first, mul-le, pow-add, shl_whole, take-append-drop, drop-append-le, take-append-le, drop_at, length-take-le, take_more, take-take, All-head, All-tail, All-take, IsText, le, IsByte, prime61, poly_step, poly_hash, Position, after, full_words, poly_end, as_word, ArePowers, block_sum, part_at, le-push, poly_end-is, length-append, take_all, append_assoc, common_steps}
use Rattle.std.specs.Simd.{first_chunks}
use Rattle.hash_keyed.proofs.Encoding.{le-lt}
use Rattle.hash_keyed.proofs.ByWords.{same_step, four_steps, after-seven, after-four, after-few}
use Rattle.hash_keyed.proofs.Powers.{same-add, same-mul}

-- ---- bytes in a word

pub places : (count : ℕ) → count < 7 → 2 ^ (8 * count) ≤ 2 ^ 48
places count few = pow_mono {i = 8 * count} {j = 48} (omega arith)

pub placed_whole : (byte count : ℕ) → byte < 256 → count < 7 → (byte * 2 ^ (8 * count)) % 2 ^ 64 ≡ byte * 2 ^ (8 * count)
placed_whole byte count small few = shl_whole byte 8 (8 * count) 64 small (omega arith)

-- one byte more fits behind the others
pub pushed-lt : (word byte count : ℕ) → word < 2 ^ (8 * count) → byte < 256 → word + byte * 2 ^ (8 * count) < 2 ^ (8 * (count + 1))
pushed-lt word byte count known small =
    let e : 8 * (count + 1) ≡ 8 + 8 * count = omega arith in
    let more : 2 ^ (8 * (count + 1)) ≡ 256 * 2 ^ (8 * count) = ap (λ k. 2 ^ k) e ∙ pow-add 2 8 (8 * count) in
    omega (arith, known, more, mul-le byte (2 ^ (8 * count)) 255 (2 ^ (8 * count)) (omega arith) (omega arith))

pub pushed_small : (word byte count : ℕ) → word < 2 ^ (8 * count) → byte < 256 → count < 7 → word + byte * 2 ^ (8 * count) < 2 ^ 56
pushed_small word byte count known small few =
    omega (arith, places count few, known, mul-le byte (2 ^ (8 * count)) 255 (2 ^ 48) (omega arith) (places count few))

-- ---- words in a text

by_square : (s k a b : ℕ) → s * (k * k) + (a * k + b) ≡ (s * k + a) * k + b
by_square s k a b = omega arith

word_before : (i : ℕ) (block more : List ℕ) → i + 7 ≤ length block → take 7 (drop i (block ++ more)) ≡ take 7 (drop i block)
word_before i block more fits =
    ap (take 7) (drop-append-le i block more (omega arith)) ∙ take-append-le 7 (drop i block) more (omega (arith, length-drop i block))

-- of eight bytes, all but the last
pub low_word : (xs : List ℕ) → IsText xs → 8 ≤ length xs
    → (le (take 8 xs) % 72057594037927936 ≡ le (take 7 xs)) × (le (take 8 xs) % 72057594037927936 < 2 ^ 56)
low_word xs is enough =
    let split = ap le (take_more xs 7 0 (omega arith)) ∙ le-push (take 7 xs) (get_or xs 7 0) in
    let place : 2 ^ (8 * length (take 7 xs)) ≡ 2 ^ 56 = ap (λ n. 2 ^ (8 * n)) (length-take-le 7 xs (omega arith)) in
    let scaled = ap (λ n. get_or xs 7 0 * n) place in
    let below = le-lt 7 (take 7 xs) (All-take IsByte 7 xs is) (le_of_eq (length-take-le 7 xs (omega arith))) in
    omega (arith, split, scaled, below)

-- of eight bytes, all but the first
pub high_word : (xs : List ℕ) → IsText xs → 8 ≤ length xs
    → (le (take 8 xs) / 256 ≡ le (take 7 (drop 1 xs))) × (le (take 8 xs) / 256 < 2 ^ 56)
unfolding le
high_word [] is enough = absurd (omega arith)
high_word (x ∷ xs) is enough =
    let below = le-lt 7 (take 7 xs) (All-take IsByte 7 xs (All-tail IsByte x xs is)) (le_of_eq (length-take-le 7 xs (omega arith))) in
    omega (arith, below, All-head IsByte x xs is)

-- a block of four words
pub four_there : (key k2 k3 k4 k8 s t : ℕ) (block : List ℕ) → ArePowers key k2 k3 k4 k8 → length block ≡ 28
    → t % prime61 ≡ (s * k4 + block_sum key k2 k3 block) % prime61
    → (more : List ℕ) → after (full_words key s) (block ++ more) ≡ after (full_words key t) more
four_there key k2 k3 k4 k8 s t block are whole led more =
    let a = le (take 7 block) in
    let b = le (take 7 (drop 7 block)) in
    let c = le (take 7 (drop 14 block)) in
    let d = le (take 7 (drop 21 block)) in
    let wa : a ≡ le (take 7 (block ++ more)) = ap le (sym (word_before 0 block more (omega arith))) in
    let wb : b ≡ le (take 7 (drop 7 (block ++ more))) = ap le (sym (word_before 7 block more (omega arith))) in
    let wc : c ≡ le (take 7 (drop 14 (block ++ more))) = ap le (sym (word_before 14 block more (omega arith))) in
    let wd : d ≡ le (take 7 (drop 21 (block ++ more))) = ap le (sym (word_before 21 block more (omega arith))) in
    let step = poly_step prime61 key in
    let flat : s * k4 + (a * k3 + b * k2 + c * key + d) ≡ s * k4 + a * k3 + b * k2 + c * key + d = omega arith in
    let same : t % prime61 ≡ step (step (step (step s (le (take 7 (block ++ more)))) (le (take 7 (drop 7 (block ++ more)))))
    (le (take 7 (drop 14 (block ++ more))))) (le (take 7 (drop 21 (block ++ more)))) =
    grind (arith, nat_tests, common_steps, four_steps) in
    after-four key s t (block ++ more) (omega (arith, length-append block more)) same
    ∙ ap (after (full_words key t)) (drop_at block more 28 whole)

-- the state of the loops over blocks: the bytes left lead on from it as all of them from the start
pub record LeadsOn (key start state : ℕ) (bytes rest : List ℕ) : Type 0 where
  pub small : state < 2 ^ 61 + 8
  pub there : after (full_words key state) rest ≡ after (full_words key start) bytes

-- two of them
pub eight_there : (key k2 k3 k4 k8 s t x y : ℕ) (block : List ℕ) (halves : List (List ℕ)) → ArePowers key k2 k3 k4 k8 → length block ≡ 56
    → halves ≡ first_chunks 28 (length block / 28) block
    → x % prime61 ≡ block_sum key k2 k3 (get_or halves 0 []) % prime61 → y % prime61 ≡ block_sum key k2 k3 (get_or halves 1 []) % prime61
    → t % prime61 ≡ (s * k8 + (x * k4 + y)) % prime61
    → (more : List ℕ) → after (full_words key s) (block ++ more) ≡ after (full_words key t) more
eight_there key k2 k3 k4 k8 s t x y block halves are whole cut first second led more =
    let two : halves ≡ first_chunks 28 2 block = cut ∙ ap (λ n. first_chunks 28 (n / 28) block) whole in
    let front = take 28 block in
    let back = drop 28 block in
    let all_back : take 28 back ≡ back = take_all 28 back (omega (arith, length-drop 28 block)) in
    let sum1 = block_sum key k2 k3 front in
    let sum2 = block_sum key k2 k3 back in
    let x_is : x % prime61 ≡ sum1 % prime61 = first ∙ ap (λ l. block_sum key k2 k3 (get_or l 0 []) % prime61) two in
    let y_is : y % prime61 ≡ sum2 % prime61 =
    second ∙ ap (λ l. block_sum key k2 k3 (get_or l 1 []) % prime61) two ∙ ap (λ l. block_sum key k2 k3 l % prime61) all_back in
    let middle = s * k4 + sum1 in
    let high : (s * k8) % prime61 ≡ (s * (k4 * k4)) % prime61 = same-mul prime61 s k8 s (k4 * k4) refl are.eighth_is in
    let low : (x * k4 + y) % prime61 ≡ (sum1 * k4 + sum2) % prime61 =
    same-add prime61 (x * k4) y (sum1 * k4) sum2 (same-mul prime61 x k4 sum1 k4 x_is refl) y_is in
    let ring : s * (k4 * k4) + (sum1 * k4 + sum2) ≡ middle * k4 + sum2 = by_square s k4 sum1 sum2 in
    let last : t % prime61 ≡ (middle * k4 + sum2) % prime61 =
    led ∙ same-add prime61 (s * k8) (x * k4 + y) (s * (k4 * k4)) (sum1 * k4 + sum2) high low ∙ ap (λ n. n % prime61) ring in
    let join : block ++ more ≡ front ++ (back ++ more) =
    ap (λ l. l ++ more) (sym (take-append-drop 28 block)) ∙ append_assoc front back more in
    ap (after (full_words key s)) join
    ∙ four_there key k2 k3 k4 k8 s middle front are (length-take-le 28 block (omega arith)) refl (back ++ more)
    ∙ four_there key k2 k3 k4 k8 middle t back are (omega (arith, length-drop 28 block)) last more

-- a chunk at the front, and what is behind it
pub chunk_more : (key s t n : ℕ) (rest block more : List ℕ) (end : Position) → block ≡ take n rest → more ≡ drop n rest
    → ((m : List ℕ) → after (full_words key s) (block ++ m) ≡ after (full_words key t) m)
    → after (full_words key s) rest ≡ end → after (full_words key t) more ≡ end
chunk_more key s t n rest block more end front back led so_far = grind (arith, nat_tests, common_steps, take-append-drop)

pub seven_more : (key s t w : ℕ) (rest word more : List ℕ) (end : Position) → word ≡ take 7 rest → more ≡ drop 7 rest
    → length more + 7 ≡ length rest
    → w ≡ le word → t % prime61 ≡ poly_step prime61 key s w
    → after (full_words key s) rest ≡ end → after (full_words key t) more ≡ end
seven_more key s t w rest word more end front back long number led so_far = grind (arith, nat_tests, common_steps, after-seven)

-- of eight bytes at the front the first seven
pub eight_more : (key s t w : ℕ) (rest block more : List ℕ) (end : Position) → block ≡ take 8 rest → more ≡ drop 7 rest
    → 8 ≤ length rest → w ≡ le (take 7 block) → t % prime61 ≡ poly_step prime61 key s w
    → after (full_words key s) rest ≡ end → after (full_words key t) more ≡ end
eight_more key s t w rest block more end front back enough number led so_far = search (rules, seven_more, length-drop, take-take)

-- ---- the answer

pub ended_is : (key state word count one s q f r : ℕ) → one ≡ 1 * 2 ^ (8 * count)
    → s % prime61 ≡ poly_step prime61 key state (word + one) → q ≡ s * key → f % prime61 ≡ q % prime61 → r ≡ f % prime61
    → r + r % 8 * 2 ^ 61 ≡ as_word (poly_end (record { key = key; state = state % prime61; word = word; count = count }))
ended_is key state word count one s q f r one_is s_is q_is f_is r_is =
    let last : word + one ≡ word + 2 ^ (8 * count) = omega (arith, one_is) in
    grind (arith, nat_tests, common_steps, same_step, mod-mod, mul-mod_first)

-- the answer where the full words and the few bytes behind them lead
pub answer_is : (key s w n r : ℕ) (bytes last : List ℕ) → after (full_words key 1) bytes ≡ after (full_words key s) last → length last < 7
    → w ≡ le last → n ≡ length last → r ≡ as_word (poly_end (part_at key (s % prime61) w n))
    → r ≡ as_word (poly_hash prime61 key bytes)
answer_is key s w n r bytes last led few word count is =
    is ∙ ap₂ (λ u v. as_word (poly_end (part_at key (s % prime61) u v))) word count
    ∙ ap (λ a. as_word (poly_end a)) (sym (led ∙ after-few key s last few)) ∙ ap as_word (poly_end-is key bytes)

-- the state after one write
pub write_is : (key s t w n : ℕ) (end : Position) (rest last : List ℕ) → after (full_words key s) rest ≡ end
    → after (full_words key s) rest ≡ after (full_words key t) last → length last < 7 → w ≡ le last → n ≡ length last
    → part_at key (t % prime61) w n ≡ end
write_is key s t w n end rest last so_far led few word count =
    ap₂ (λ u v. part_at key (t % prime61) u v) word count ∙ sym (after-few key t last few) ∙ sym led ∙ so_far

-- where no byte is kept
pub nothing_kept : (key s w n : ℕ) (at : Position) → part_at key (s % prime61) w n ≡ at → at.count ≤ 0 → w < 2 ^ (8 * n)
    → full_words key s ≡ at
nothing_kept key s w n at same none known = grind (arith, nat_tests, common_steps)
