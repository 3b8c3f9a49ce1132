-- A text is one number, of which all bits go out one after the other; a CRC is linear in it and in the state before.
use Rattle.hash_more.proofs.Crc32Common.{◌≡◌, ℕ, zero, suc, ◌+◌, ◌*◌, ◌/◌, ◌%◌, ◌^◌, ◌<◌, ◌≤◌, List, [], ◌∷◌, ◌++◌, length, take, drop, get_or, fold, map, bit_xor, sym, ap, ◌∙◌, refl, lit<, arith, ap₂, take-append-drop, length-drop, length-take-le, mod-eq_of_lt, xor_assoc, xor_zero_l, xor_zero_r, xor_comm, xor_lt, All-take, All-drop, IsText, le, recurrence-nil, recurrence-fold, recurrence-append, recurrence_is_fold, after_below, xor_twice, all_ones, bit_out, bits_out, crc_step, crc_from, crc_answer, crc_facts}
use Rattle.std.proofs.lemmas.List.{get_or-map, length-map, nil_from_length, take_all}
use Rattle.std.specs.Simd.{first_chunks}
use Rattle.std.specs.List.{range_with_len}
use Rattle.std.proofs.lemmas.List.FromFn.{get_or-map-range_with_len}
use Rattle.hash_more.proofs.Crc32Lemmas.{by_table, bits_out-xor, moved_down, low_and_high}
use Rattle.hash_more.specs.Crc32Laws.{crc_from-lt}

module _ (p : ℕ) where
  pub bits_out-more : (m k y : ℕ) → bits_out p k (bits_out p m y) ≡ bits_out p (m + k) y
  bits_out-more zero k y =
      let all : k ≡ zero + k = omega arith in
      ap (λ j. bits_out p j y) all
  bits_out-more (suc m) k y =
      let more : suc (m + k) ≡ suc m + k = omega arith in
      bits_out-more m k (bit_out p y) ∙ ap (λ j. bits_out p j y) more

  pub bits_out-none : (n : ℕ) → bits_out p n 0 ≡ 0
  bits_out-none n =
      let none : 0 ≡ 2 ^ n * 0 = omega arith in
      ap (bits_out p n) none ∙ moved_down p n 0

  pub crc_from-cons : (h b : ℕ) (text : List ℕ) → crc_from p h (b ∷ text) ≡ crc_from p (crc_step p h b) text
  crc_from-cons h b text =
      recurrence-fold (crc_step p) h (b ∷ text) ∙ sym (recurrence-fold (crc_step p) (crc_step p h b) text)

  -- all bits of a text, and of what is xored into its first ones
  pub crc_from-number : (text : List ℕ) (h : ℕ) → IsText text → crc_from p h text ≡ bits_out p (8 * length text) (bit_xor h (le text))
  unfolding le
  crc_from-number [] h known = recurrence-nil (crc_step p) h ∙ sym (xor_zero_r h)
  crc_from-number (b ∷ text) h known =
      let byte : b < 256 = known 0 0 (omega arith) in
      let more : IsText text = λ k d below. known (suc k) d (omega arith) in
      let m = le text in
      let bits : 8 + 8 * length text ≡ 8 * suc (length text) = omega arith in
      let step : bit_xor (crc_step p h b) m ≡ bits_out p 8 (bit_xor h (b + 256 * m)) =
      ap (bit_xor (bits_out p 8 (bit_xor h b))) (sym (moved_down p 8 m))
      ∙ sym (bits_out-xor p 8 (bit_xor h b) (256 * m))
      ∙ ap (bits_out p 8) (xor_assoc h b (256 * m) ∙ ap (bit_xor h) (low_and_high 8 b m byte)) in
      crc_from-cons h b text ∙ crc_from-number text (crc_step p h b) more
      ∙ ap (bits_out p (8 * length text)) step ∙ bits_out-more 8 (8 * length text) (bit_xor h (b + 256 * m))
      ∙ ap (λ n. bits_out p n (bit_xor h (b + 256 * m))) bits

  -- a difference of the states goes out behind the text
  pub crc_from-xor : (text : List ℕ) (s d : ℕ)
      → crc_from p (bit_xor s d) text ≡ bit_xor (crc_from p s text) (bits_out p (8 * length text) d)
  crc_from-xor [] s d = recurrence-nil (crc_step p) (bit_xor s d) ∙ ap (λ n. bit_xor n d) (sym (recurrence-nil (crc_step p) s))
  crc_from-xor (b ∷ text) s d =
      let turned : bit_xor (bit_xor s d) b ≡ bit_xor (bit_xor s b) d = xor_assoc s d b ∙ ap (bit_xor s) (xor_comm d b)
      ∙ sym (xor_assoc s b d) in
      let bits : 8 + 8 * length text ≡ 8 * suc (length text) = omega arith in
      crc_from-cons (bit_xor s d) b text
      ∙ ap (λ t. crc_from p t text) (ap (bits_out p 8) turned ∙ bits_out-xor p 8 (bit_xor s b) d)
      ∙ crc_from-xor text (crc_step p s b) (bits_out p 8 d)
      ∙ ap₂ bit_xor (sym (crc_from-cons s b text)) (bits_out-more 8 (8 * length text) d ∙ ap (λ n. bits_out p n d) bits)

  -- the state before goes out behind the text, and beside it the text by itself
  pub crc_from-apart : (text : List ℕ) (s : ℕ) → crc_from p s text ≡ bit_xor (bits_out p (8 * length text) s) (crc_from p 0 text)
  crc_from-apart text s =
      ap (λ t. crc_from p t text) (sym (xor_zero_l s)) ∙ crc_from-xor text 0 s
      ∙ xor_comm (crc_from p 0 text) (bits_out p (8 * length text) s)

  -- a text's first four bytes by themselves
  four_front : (h : ℕ) (text : List ℕ) → IsText text → 4 ≤ length text
      → crc_from p h text ≡ bit_xor (bits_out p (8 * length text) (bit_xor h (le (take 4 text)))) (crc_from p 0 (drop 4 text))
  four_front h text known long =
      let first = take 4 text in
      let rest = drop 4 text in
      let four : length first ≡ 4 = length-take-le 4 text long in
      let is_text : IsText first = All-take (λ byte. byte < 256) 4 text known in
      let bits : 8 * length first + 8 * length rest ≡ 8 * length text = omega (arith, four, length-drop 4 text) in
      ap (crc_from p h) (sym (take-append-drop 4 text)) ∙ recurrence-append (crc_step p) h first rest
      ∙ crc_from-apart rest (crc_from p h first)
      ∙ ap (λ n. bit_xor (bits_out p (8 * length rest) n) (crc_from p 0 rest)) (crc_from-number first h is_text)
      ∙ ap (λ n. bit_xor n (crc_from p 0 rest)) (bits_out-more (8 * length first) (8 * length rest) (bit_xor h (le first))
      ∙ ap (λ n. bits_out p n (bit_xor h (le first))) bits)

  -- sixteen bytes, four by four: each of the four numbers by itself, with the zeros behind it
  pub sixteen : (h : ℕ) (text : List ℕ) → IsText text → length text ≡ 16
      → crc_from p h text ≡ bit_xor (bits_out p 128 (bit_xor h (le (take 4 text)))) (bit_xor (bits_out p 96 (le (take 4 (drop 4 text))))
      (bit_xor (bits_out p 64 (le (take 4 (drop 4 (drop 4 text))))) (bits_out p 32 (le (take 4 (drop 4 (drop 4 (drop 4 text))))))))
  sixteen h text known whole =
      let is_text = λ (rest : List ℕ) (all : IsText rest). All-drop (λ byte. byte < 256) 4 rest all in
      let second = drop 4 text in
      let third = drop 4 second in
      let last = drop 4 third in
      let twelve : length second ≡ 12 = length-drop 4 text ∙ omega (arith, whole) in
      let eight : length third ≡ 8 = length-drop 4 second ∙ omega (arith, twelve) in
      let four : length last ≡ 4 = length-drop 4 third ∙ omega (arith, eight) in
      let none : drop 4 last ≡ [] = nil_from_length (drop 4 last) (length-drop 4 last ∙ omega (arith, four)) in
      let at = λ (rest : List ℕ) (n : ℕ) (is : length rest ≡ n) (s : ℕ).
      ap (λ k. bit_xor (bits_out p (8 * k) (bit_xor s (le (take 4 rest)))) (crc_from p 0 (drop 4 rest))) is in
      let plain = λ (n w : ℕ). ap (bits_out p n) (xor_zero_l w) in
      let of_last : crc_from p 0 last ≡ bits_out p 32 (le (take 4 last)) =
      four_front 0 last (is_text third (is_text second (is_text text known))) (omega (arith, four)) ∙ at last 4 four 0
      ∙ ap₂ bit_xor (plain 32 (le (take 4 last))) (ap (crc_from p 0) none ∙ recurrence-nil (crc_step p) 0)
      ∙ xor_zero_r (bits_out p 32 (le (take 4 last))) in
      let of_third : crc_from p 0 third ≡ bit_xor (bits_out p 64 (le (take 4 third))) (bits_out p 32 (le (take 4 last))) =
      four_front 0 third (is_text second (is_text text known)) (omega (arith, eight)) ∙ at third 8 eight 0
      ∙ ap₂ bit_xor (plain 64 (le (take 4 third))) of_last in
      let of_second : crc_from p 0 second ≡ bit_xor (bits_out p 96 (le (take 4 second))) (bit_xor (bits_out p 64 (le (take 4 third)))
      (bits_out p 32 (le (take 4 last)))) =
      four_front 0 second (is_text text known) (omega (arith, twelve)) ∙ at second 12 twelve 0
      ∙ ap₂ bit_xor (plain 96 (le (take 4 second))) of_third in
      four_front h text known (omega (arith, whole)) ∙ at text 16 whole h
      ∙ ap (bit_xor (bits_out p 128 (bit_xor h (le (take 4 text))))) of_second

-- a text of k pieces of n bytes, piece by piece
in_pieces : (p n k h : ℕ) (text : List ℕ) → length text ≡ k * n → fold (crc_from p) h (first_chunks n k text) ≡ crc_from p h text
in_pieces p n zero h text whole = rw (nil_from_length text (omega arith)) (sym (recurrence-nil (crc_step p) h))
in_pieces p n (suc k) h text whole =
    in_pieces p n k (crc_from p h (take n text)) (drop n text) (omega (arith, length-drop n text))
    ∙ sym (recurrence-append (crc_step p) h (take n text) (drop n text)) ∙ ap (crc_from p h) (take-append-drop n text)

-- the few bytes that come before the whole sixteens, and then all sixteens
pub all_sixteens : (p h start state i : ℕ) (text few : List ℕ) (sixteens : List (List ℕ)) → length sixteens ≤ i
    → few ≡ take (length text % 16) text → sixteens ≡ first_chunks 16 (length text / 16) (drop (length text % 16) text)
    → start ≡ crc_from p h few → state ≡ fold (crc_from p) start (take i sixteens)
    → state ≡ crc_from p h text
all_sixteens p h start state i text few sixteens over front back begun so_far =
    let n = length text % 16 in
    so_far ∙ rw (take_all i sixteens over, back, begun, front)
    (in_pieces p 16 (length text / 16) (crc_from p h (take n text)) (drop n text) (omega (arith, length-drop n text))
    ∙ sym (recurrence-append (crc_step p) h (take n text) (drop n text)) ∙ ap (crc_from p h) (take-append-drop n text))

-- the rows of a table, behind a first one: eight bits more go out of each entry
abbrev pub rows : ℕ → ℕ → List ℕ → List (List ℕ)
rows p zero row = []
rows p (suc n) row = row ∷ rows p n (map (bits_out p 8) row)

pub row_entry : (p n bits k b : ℕ) (row : List ℕ) → length row ≡ 256 → ((i : ℕ) → i < 256 → get_or row i 0 ≡ bits_out p bits i)
    → k < n → b < 256 → get_or (get_or (rows p n row) k []) b 0 ≡ bits_out p (bits + 8 * k) b
row_entry p zero bits k b row whole is below byte = absurd (omega arith)
row_entry p (suc n) bits zero b row whole is below byte =
    let all : bits ≡ bits + 8 * 0 = omega arith in
    is b byte ∙ ap (λ j. bits_out p j b) all
row_entry p (suc n) bits (suc k) b row whole is below byte =
    let more : bits + 8 + 8 * k ≡ bits + 8 * suc k = omega arith in
    row_entry p n (bits + 8) k b (map (bits_out p 8) row) (length-map row (bits_out p 8) ∙ whole)
    (λ i small. get_or-map (bits_out p 8) row i 0 0 (omega (arith, whole)) ∙ ap (bits_out p 8) (is i small) ∙ bits_out-more p bits 8 i)
    (omega arith) byte ∙ ap (λ j. bits_out p j b) more

-- an entry of a table: its place with eight bits gone out, and those of so many zeros
pub entry : (p zeros b : ℕ) (table : List (List ℕ)) → table ≡ rows p 16 (map (bits_out p 8) (range_with_len 0 256)) → zeros < 16 → b < 256
    → get_or (get_or table zeros []) b 0 ≡ bits_out p (8 * (zeros + 1)) b
entry p zeros b table is row byte =
    let bits : 8 + 8 * zeros ≡ 8 * (zeros + 1) = omega arith in
    ap (λ (t : List (List ℕ)). get_or (get_or t zeros []) b 0) is
    ∙ row_entry p 16 8 zeros b (map (bits_out p 8) (range_with_len 0 256)) refl
    (λ i small. get_or-map-range_with_len (bits_out p 8) 0 256 i i 0 small (omega arith)) row byte
    ∙ ap (λ n. bits_out p n b) bits

-- a word's low byte goes out by itself, with the zeros behind it, and the others after it
low_byte_out : (p n x : ℕ) → bits_out p (8 * suc n) x ≡ bit_xor (bits_out p (8 * suc n) (x % 256)) (bits_out p (8 * n) (x / 256))
low_byte_out p n x =
    let bits : 8 * suc n ≡ 8 + 8 * n = omega arith in
    ap (λ j. bits_out p j x) bits ∙ sym (bits_out-more p 8 (8 * n) x) ∙ ap (bits_out p (8 * n)) (sym (by_table p x))
    ∙ bits_out-xor p (8 * n) (bits_out p 8 (x % 256)) (x / 256)
    ∙ ap (λ y. bit_xor y (bits_out p (8 * n) (x / 256)))
    (bits_out-more p 8 (8 * n) (x % 256) ∙ ap (λ j. bits_out p j (x % 256)) (sym bits))

from_right : (a b c d : ℕ) → bit_xor (bit_xor (bit_xor a b) c) d ≡ bit_xor a (bit_xor b (bit_xor c d))
from_right a b c d = xor_assoc (bit_xor a b) c d ∙ xor_assoc a b (bit_xor c d)

-- a word by the bytes
pub word_by_bytes : (p n x a b c d : ℕ) → a ≡ bits_out p (8 * (n + 3 + 1)) (x % 256) → b ≡ bits_out p (8 * (n + 2 + 1)) (x / 256 % 256)
    → c ≡ bits_out p (8 * (n + 1 + 1)) (x / 65536 % 256) → d ≡ bits_out p (8 * (n + 1)) (x / 16777216)
    → bit_xor (bit_xor (bit_xor a b) c) d ≡ bits_out p (8 * (n + 4)) x
word_by_bytes p n x a b c d first second third last =
    let out = λ (k : ℕ) (m : ℕ) (y : ℕ) (is : 8 * k ≡ 8 * m). ap (λ j. bits_out p j y) is in
    let third_at : x / 256 / 256 ≡ x / 65536 = omega arith in
    let last_at : x / 65536 / 256 ≡ x / 16777216 = omega arith in
    let of_third : bits_out p (8 * suc (suc n)) (x / 65536) ≡ bit_xor c d =
    low_byte_out p (suc n) (x / 65536)
    ∙ ap₂ bit_xor (out (suc (suc n)) (n + 1 + 1) (x / 65536 % 256) (omega arith) ∙ sym third)
    (out (suc n) (n + 1) (x / 65536 / 256) (omega arith) ∙ ap (bits_out p (8 * (n + 1))) last_at ∙ sym last) in
    let of_second : bits_out p (8 * suc (suc (suc n))) (x / 256) ≡ bit_xor b (bit_xor c d) =
    low_byte_out p (suc (suc n)) (x / 256)
    ∙ ap₂ bit_xor (out (suc (suc (suc n))) (n + 2 + 1) (x / 256 % 256) (omega arith) ∙ sym second)
    (ap (bits_out p (8 * suc (suc n))) third_at ∙ of_third) in
    from_right a b c d
    ∙ sym (out (n + 4) (suc (suc (suc (suc n)))) x (omega arith) ∙ low_byte_out p (suc (suc (suc n))) x
    ∙ ap₂ bit_xor (out (suc (suc (suc (suc n)))) (n + 3 + 1) (x % 256) (omega arith) ∙ sym first) of_second)

-- sixteen bytes by four words
pub sixteen_by_words : (p h : ℕ) (text : List ℕ) (fours : List (List ℕ)) (a b c d : ℕ) → IsText text → length text ≡ 16
    → fours ≡ first_chunks 4 (length text / 4) text
    → a ≡ bits_out p 128 (bit_xor h (le (get_or fours 0 []))) → b ≡ bits_out p 96 (le (get_or fours 1 []))
    → c ≡ bits_out p 64 (le (get_or fours 2 []))
    → d ≡ bits_out p 32 (le (get_or fours 3 [])) → bit_xor (bit_xor (bit_xor a b) c) d ≡ crc_from p h text
sixteen_by_words p h text fours a b c d known whole are first second third last =
    let four : fours ≡ first_chunks 4 4 text = are ∙ ap (λ n. first_chunks 4 (n / 4) text) whole in
    from_right a b c d ∙ rw (first, second, third, last, four) (sym (sixteen p h text known whole))

-- the answer of a joined text
pub joined_answer : (p : ℕ) (highest : p / 2 ^ 31 ≡ 1) (x y : List ℕ) (hash1 hash2 n result : ℕ) → IsText x → IsText y → length y ≡ n
    → hash1 ≡ crc_answer (crc_from p all_ones x) → hash2 ≡ crc_answer (crc_from p all_ones y)
    → result ≡ bit_xor (bits_out p (8 * n) (hash1 % 2 ^ 32)) (hash2 % 2 ^ 32)
    → result ≡ crc_answer (crc_from p all_ones (x ++ y))
joined_answer p highest x y hash1 hash2 n result xs ys whole first second is =
    let in_range = crc_from-lt p highest in
    let answers = λ (s : ℕ) (known : s < 2 ^ 32). mod-eq_of_lt (xor_lt 32 s all_ones known (lit< tt)) in
    let a = crc_from p all_ones x in
    let b = crc_from p all_ones y in
    let word1 : hash1 % 2 ^ 32 ≡ crc_answer a = ap (λ h. h % 2 ^ 32) first ∙ answers a (in_range x xs) in
    let word2 : hash2 % 2 ^ 32 ≡ crc_answer b = ap (λ h. h % 2 ^ 32) second ∙ answers b (in_range y ys) in
    let out = bits_out p (8 * n) (crc_answer a) in
    let back : bit_xor all_ones (crc_answer a) ≡ a = xor_comm all_ones (crc_answer a) ∙ xor_twice a all_ones in
    let led : crc_from p all_ones (x ++ y) ≡ bit_xor b out =
    recurrence-append (crc_step p) all_ones x y ∙ ap (λ s. crc_from p s y) (sym back) ∙ crc_from-xor p y all_ones (crc_answer a)
    ∙ ap (λ m. bit_xor b (bits_out p (8 * m) (crc_answer a))) whole in
    is ∙ ap₂ bit_xor (ap (bits_out p (8 * n)) word1) word2
    ∙ sym (xor_assoc out b all_ones) ∙ ap (λ s. bit_xor s all_ones) (xor_comm out b ∙ sym led)
