-- What mixing in the whole blocks of some bytes leads to.
use Rattle.hash_jenkins.proofs.Common.{◌≡◌, ℕ, nat_lt, nat_le, ◌&&◌, true, false, ◌+◌, ◌-◌, ◌*◌, ◌/◌, ◌%◌, ◌<◌, ◌≤◌, List, ◌++◌, length, take, drop, refl, sym, ap, ◌∙◌, arith, length-append, nat_tests, append_assoc, take-take, take-append-le, drop-take, length-take-le, spooky_blocks, spooky_blocks-take, block_end, calls_over, put_at, Long, mixed, mixed-append, mixed_short, mixed_through, take-put_at}
use Rattle.std.proofs.Common.{length-drop}
use Rattle.std.proofs.lemmas.List.{take-append-drop}

-- the whole blocks of a text, as far as they go
pub whole_blocks : (s t : List ℕ) → spooky_blocks s (take (length t / 96 * 96) t) ≡ spooky_blocks s t
whole_blocks s t = spooky_blocks-take s t (length t / 96 * 96) refl

-- bytes that complete no block are kept behind those that are
pub mixed_part : (s b p : List ℕ) (k : ℕ) → k ≤ length b → k + length p < 96
    → mixed s (take k b ++ p) ≡ Long s (take (k + length p) (put_at k p b))
mixed_part s b p k fits part =
    let short : length (take k b ++ p) < 96 = omega (arith, length-append (take k b) p, length-take-le k b fits) in
    rw (mixed_short s (take k b ++ p) short, take-put_at k p b (k + length p) refl fits) refl

-- bytes that complete a block go on from its end
pub mixed_whole : (s b head rest : List ℕ) (k full : ℕ) → k ≤ length b → full ≡ k + length head → full % 96 ≡ 0
    → mixed s (take k b ++ (head ++ rest)) ≡ Long (spooky_blocks (spooky_blocks s (take full (put_at k head b)))
    (take (length rest / 96 * 96) rest)) (drop (length rest / 96 * 96) rest)
mixed_whole s b head rest k full fits ends edge =
    let filled = take-put_at k head b full ends fits in
    let whole : length (take k b ++ head) % 96 ≡ 0 = omega (arith, length-append (take k b) head, length-take-le k b fits) in
    rw (filled, ← append_assoc) (mixed_through s (take k b ++ head) rest (length rest / 96 * 96) whole refl)

-- a piece that completes one block, put as a whole, and what is behind the block copied to the front
pub mixed_piece : (s b p : List ℕ) (k n : ℕ) → k ≤ length b → n ≡ k + length p → n ≤ length b → 96 ≤ n → n < 192
    → mixed s (take k b ++ p) ≡ Long (spooky_blocks s (take 96 (put_at k p b)))
    (take (n - 96) (put_at 0 (drop 96 (put_at k p b)) (put_at k p b)))
mixed_piece s b p k n fits ends within some few =
    let w : List ℕ = put_at k p b in
    let all : List ℕ = take k b ++ p in
    let filled : take n w ≡ all = take-put_at k p b n ends fits in
    let size : length all ≡ n = omega (arith, ends, length-append (take k b) p, length-take-le k b fits) in
    let size_w : length w ≡ length b
    = omega (
      arith,
      ends,
      within,
      length-append (take k b) (p ++ drop (k + length p) b),
      length-append p (drop (k + length p) b),
      length-take-le k b fits,
      length-drop (k + length p) b,
    ) in
    let front : take 96 w ≡ take 96 all = sym (take-take 96 n w some) ∙ ap (take 96) filled in
    let enough : n - 96 ≤ length (drop 96 w) = omega (arith, size_w, within, length-drop 96 w) in
    let whole : 96 + (n - 96) ≡ n = omega (arith, some) in
    let behind : take (n - 96) (put_at 0 (drop 96 w) w) ≡ drop 96 all =
    take-append-le (n - 96) (drop 96 w) (drop (0 + length (drop 96 w)) w) enough ∙ sym (drop-take 96 (n - 96) w)
    ∙ ap (λ i. drop 96 (take i w)) whole ∙ ap (drop 96) filled in
    let rest : length (drop 96 all) ≡ n - 96 = length-drop 96 all ∙ ap (λ i. i - 96) size in
    let block : length (take 96 all) % 96 ≡ 0 = omega (arith, size, length-take-le 96 all (omega (arith, size, some))) in
    rw (front, behind) (ap (mixed s) (sym (take-append-drop 96 all)) ∙ mixed-append s (take 96 all) (drop 96 all) block
    ∙ mixed_short (spooky_blocks s (take 96 all)) (drop 96 all) (omega (arith, rest, few)))

-- the same of the words and the buffer that the code comes to
pub mixed_piece_from : (s b p words buffer : List ℕ) (k : ℕ) → k ≤ length b → k + length p ≤ length b → 96 ≤ k + length p
    → k + length p < 192
    → words ≡ spooky_blocks s (take 96 (put_at k p b)) → buffer ≡ put_at 0 (drop 96 (put_at k p b)) (put_at k p b)
    → Long words (take (k + length p - 96) buffer) ≡ mixed s (take k b ++ p)
mixed_piece_from s b p words buffer k fits within some few led left =
    rw (led, left) (sym (mixed_piece s b p k (k + length p) fits refl within some few))

-- what is missing from a block that must be completed
pub room_in_block : (k n : ℕ) → k < 192 → 96 ≤ k + n → (96 ≤ k → 192 ≤ k + n) → block_end k - k ≤ n
room_in_block k n within some enough = grind arith

-- how many calls: for no block, where no bytes are kept, where no block follows the kept bytes, and where one does
pub calls_none : (k n : ℕ) → k + n < 96 → calls_over k n ≡ 0
calls_none k n few =
    let none : nat_lt (k + n) 96 ≡ true = grind (arith, nat_tests) in
    rw none refl

module _ (k n : ℕ) (block : 96 ≤ k + n) where
  some : nat_lt (k + n) 96 ≡ false
  some = grind (arith, nat_tests)

  pub calls_unkept : k ≡ 0 → calls_over k n ≡ 1
  calls_unkept none =
      let kept : nat_lt 0 k ≡ false = grind (arith, nat_tests) in
      rw (some, kept) refl

  pub calls_last : k + n < block_end k + 96 → calls_over k n ≡ 1
  calls_last last =
      let follows : (nat_lt 0 k && nat_le (block_end k + 96) (k + n)) ≡ false = grind (arith, nat_tests) in
      rw (some, follows) refl

  pub calls_followed : 0 < k → block_end k + 96 ≤ k + n → calls_over k n ≡ 2
  calls_followed any more =
      let kept : nat_lt 0 k ≡ true = grind (arith, nat_tests) in
      let follows : nat_le (block_end k + 96) (k + n) ≡ true = grind (arith, nat_tests) in
      rw (some, kept, follows) refl
