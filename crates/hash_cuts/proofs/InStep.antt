-- The chunks joined are the text, a chunk depends on its own bytes, and chunks that begin at one place of two texts are the same.
use Rattle.hash_cuts.proofs.Common.{◌≡◌, ◌≢◌, ℕ, zero, suc, ◌-◌, ◌*◌, ◌^◌, ◌<◌, ◌≤◌, nat_lt, List, [], ◌∷◌, ◌++◌, length, length-append, take, drop, inl, inr, arith, ap, sym, ◌∙◌, refl, ap₂, All, concat, cases_lt, drop-append-le, take-append-drop, take-append-le, nil_from_length, take-append_seam, drop-append_seam, Cutting, HasSizes, chunks, chunks_upto, first_cut, is_cut, gear, gear_of, append_assoc, length-drop, length-take-le, All-nil, All-cons, nat_tests, common_steps, rules}
use Rattle.hash_cuts.proofs.ChunkLemmas.{chunks-first, chunks-none, first_cut-le, first_cut-some}
use Rattle.hash_cuts.proofs.CutLemmas.{first_cut-is, first_cut-from, latest}

module _ (cuts : Cutting) (sizes : HasSizes cuts) where
  -- whether a place is a cut depends on the bytes before it
  pub is_cut-same : (text other : List ℕ) (n m : ℕ) → cuts.least ≤ m → m ≤ n → n ≤ length text
      → is_cut cuts (take n text ++ other) m ≡ is_cut cuts text m
  is_cut-same text other n m from within known =
      let front = take n text in
      let len = length-take-le n text known in
      let same : (more : List ℕ) → take 64 (drop (m - 64) (front ++ more)) ≡ take 64 (drop (m - 64) front) = λ more.
      rw (
        drop-append-le (m - 64) front more (omega (arith, sizes.0, from, within, len)),
        take-append-le 64 (drop (m - 64) front) more (omega (arith, sizes.0, from, within, len, length-drop (m - 64) front)),
      ) in
      ap (λ (t : List ℕ). nat_lt (gear_of (gear cuts.seed1 cuts.seed2) t * cuts.average) (2 ^ 64))
      (same other ∙ sym (same (drop n text)) ∙ ap (λ t. take 64 (drop (m - 64) t)) (take-append-drop n text))

  pub own-bytes : (text other : List ℕ) → first_cut cuts text < length text
      → first_cut cuts (take (first_cut cuts text) text ++ other) ≡ first_cut cuts text
  own-bytes text other before = search (rules, first_cut-is, is_cut-same, length-append, length-take-le, first_cut-from)

  -- the length of a chunk
  chunk-length : (text : List ℕ) → length (take (first_cut cuts text) text) ≡ first_cut cuts text
  chunk-length text = length-take-le (first_cut cuts text) text (first_cut-le cuts sizes text)

  -- a text with chunks has a byte
  some-byte : (text chunk : List ℕ) (others : List (List ℕ)) → chunks cuts text ≡ chunk ∷ others → 0 < length text
  unfolding chunks_upto
  some-byte [] chunk others are = absurd (omega (arith, ap length are))
  some-byte (byte ∷ text) chunk others are = omega arith

  -- the first of the chunks that are known, and the text behind it
  first-known : (text chunk : List ℕ) (others : List (List ℕ)) → chunks cuts text ≡ chunk ∷ others
      → (take (first_cut cuts text) text ≡ chunk) × (chunks cuts (drop (first_cut cuts text) text) ≡ others)
  first-known text chunk others are = grind (arith, nat_tests, common_steps, chunks-first, some-byte)

  rest-known : (x more chunk : List ℕ) (xs others : List (List ℕ)) → chunks cuts (x ++ more) ≡ chunk ∷ xs ++ others
      → chunk ++ concat xs ≡ x → drop (first_cut cuts (x ++ more)) (x ++ more) ≡ concat xs ++ more
  rest-known x more chunk xs others are joined =
      let text = x ++ more in
      grind (arith, nat_tests, common_steps, first-known text chunk (xs ++ others) are, append_assoc chunk (concat xs) more)

  -- behind a chunk's end the chunks are those of the rest
  pub behind : (xs : List (List ℕ)) (x more : List ℕ) (others : List (List ℕ)) → chunks cuts (x ++ more) ≡ xs ++ others
      → concat xs ≡ x → others ≡ chunks cuts more
  behind [] x more others are joined = sym are ∙ ap (λ t. chunks cuts (t ++ more)) (sym joined)
  behind (chunk ∷ xs) x more others are joined =
      behind xs (concat xs) more others
      (ap (chunks cuts) (sym (rest-known x more chunk xs others are joined)) ∙ (first-known (x ++ more) chunk (xs ++ others) are).1)
      refl

  -- the chunks before a chunk's end stay, whatever stands behind
  pub before-stay : (xs : List (List ℕ)) (x old new : List ℕ) (others : List (List ℕ)) → chunks cuts (x ++ old) ≡ xs ++ others
      → others ≢ [] → concat xs ≡ x → chunks cuts (x ++ new) ≡ xs ++ chunks cuts new
  before-stay [] x old new others are some joined = ap (λ t. chunks cuts (t ++ new)) (sym joined)
  before-stay (chunk ∷ xs) x old new others are some joined =
      let text = x ++ old in
      let n = first_cut cuts text in
      let known = first-known text chunk (xs ++ others) are in
      let rest = rest-known x old chunk xs others are joined in
      let len : length chunk ≡ n = ap length (sym known.0) ∙ chunk-length text in
      let more : 0 < length (drop n text) = elim (cases_lt 0 (length (drop n text))) [
        | inl there ↦ there
        | inr none ↦
            let all = ap length (sym known.1 ∙ chunks-none cuts (drop n text) (omega (arith, none))) in
            absurd (some (nil_from_length others (omega (arith, all, length-append xs others))))
      ] in
      let other = concat xs ++ new in
      let new_is : x ++ new ≡ chunk ++ other = ap (λ t. t ++ new) (sym joined) ∙ append_assoc chunk (concat xs) new in
      let cut : first_cut cuts (chunk ++ other) ≡ n =
      ap (λ c. first_cut cuts (c ++ other)) (sym known.0) ∙ own-bytes text other (omega (arith, more, length-drop n text)) in
      let same : first_cut cuts (chunk ++ other) ≡ length chunk = cut ∙ sym len in
      ap (chunks cuts) new_is
      ∙ chunks-first cuts sizes (chunk ++ other)
      (omega (arith, length-append chunk other, len, first_cut-some cuts sizes text (some-byte text chunk (xs ++ others) are)))
      ∙ ap₂ (λ (c : List ℕ) (t : List ℕ). c ∷ chunks cuts t)
      (ap (λ k. take k (chunk ++ other)) same ∙ take-append_seam chunk other)
      (ap (λ k. drop k (chunk ++ other)) same ∙ drop-append_seam chunk other)
      ∙ ap (λ list. chunk ∷ list)
      (before-stay xs (concat xs) old new others (ap (chunks cuts) (sym rest) ∙ known.1) some refl)

  -- ---- all chunks

  -- what holds of no chunks, and of a chunk before those of the rest, holds of all chunks
  by_chunks : (P : List ℕ → List (List ℕ) → Type 0) → P [] []
      → ((text : List ℕ) → 0 < length text → let cut = first_cut cuts text in
      P (drop cut text) (chunks cuts (drop cut text)) → P text (take cut text ∷ chunks cuts (drop cut text)))
      → (n : ℕ) (text : List ℕ) → length text ≤ n → P text (chunks cuts text)
  unfolding chunks_upto
  by_chunks P none one n [] within = none
  by_chunks P none one zero (byte ∷ text) within = absurd (omega arith)
  by_chunks P none one (suc n) (byte ∷ text) within =
      let whole = byte ∷ text in
      let some : 0 < length whole = omega arith in
      let left = length-drop (first_cut cuts whole) whole in
      rw (chunks-first cuts sizes whole some) (one whole some (by_chunks P none one n (drop (first_cut cuts whole) whole)
      (omega (arith, within, left, first_cut-some cuts sizes whole some))))

  pub chunks-joined : (text : List ℕ) → concat (chunks cuts text) ≡ text
  chunks-joined text =
      by_chunks (λ text list. concat list ≡ text) refl
      (λ text some rest. rw rest (take-append-drop (first_cut cuts text) text)) (length text) text (omega arith)

  abbrev AtMost : List ℕ → Type 0
  AtMost chunk = length chunk ≤ cuts.most

  abbrev AtLeast : List ℕ → Type 0
  AtLeast chunk = cuts.least ≤ length chunk

  pub chunks-most : (text : List ℕ) → All AtMost (chunks cuts text)
  chunks-most text =
      by_chunks (λ text list. All AtMost list) (All-nil AtMost)
      (λ text some rest. All-cons AtMost _ _ (omega (arith, chunk-length text, (first_cut-is cuts text).within)) rest)
      (length text) text (omega arith)

  -- a chunk behind which something is left
  long-enough : (text : List ℕ) → first_cut cuts text < length text → AtLeast (take (first_cut cuts text) text)
  long-enough text before = grind (arith, nat_tests, common_steps, first_cut-is, cases_lt, latest, chunk-length)

  one_less : (chunk : List ℕ) (list : List (List ℕ)) → length (chunk ∷ list) - 1 ≡ length list
  one_less chunk list = omega arith

  all-but-last : (chunk : List ℕ) (list : List (List ℕ)) → (0 < length list → AtLeast chunk)
      → All AtLeast (take (length list - 1) list) → All AtLeast (take (length (chunk ∷ list) - 1) (chunk ∷ list))
  all-but-last chunk [] long rest = rw (one_less chunk []) (All-nil AtLeast)
  all-but-last chunk (next ∷ list) long rest = grind (arith, nat_tests, common_steps, one_less chunk (next ∷ list), one_less next list)

  pub chunks-least : (text : List ℕ) → All AtLeast (take (length (chunks cuts text) - 1) (chunks cuts text))
  chunks-least text =
      by_chunks (λ text list. All AtLeast (take (length list - 1) list)) (All-nil AtLeast) (λ text some rest.
      search (rules, all-but-last, long-enough, cases_lt, length-drop, chunks-none)) (length text) text (omega arith)
