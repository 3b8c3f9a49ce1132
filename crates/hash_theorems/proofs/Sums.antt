-- Words that are added to as many others, and the bytes of words: both are undone.
use Rattle.hash_theorems.proofs.JenkinsCommon.{◌≡◌, ◌*◌, ◌^◌, ◌<◌, ◌∷◌, ◌∙◌, ℕ, List, [], length, get_or, slice_index, slice_set, map, refl, arith, ap₂, add_comm, add-zero, flat_map, mod-eq_of_lt, Width, to_le_bytes, first_chunks, set-get_or, length-map, length-append, All, All-nil, All-append, All-head, All-tail, All-map, take_at, drop_at, add, AreWords-at, AreWords-from, IsPiece, length-first_chunks, first_chunks-pieces, all_words-same, Step, AddData, AreNWords, Undoes, IsWord, likewise, of_steps, IsText, IsByte, IsText-to_le_bytes, le, apply, undo, differences, missing}

pub add-nothing : (w i : ℕ) (s : List ℕ) → slice_index s i < 2 ^ w → slice_set s i (add w (slice_index s i) 0) ≡ s
add-nothing w i s s_in = rw (add-zero (slice_index s i), mod-eq_of_lt s_in) (set-get_or s i 0)

-- ---- a text of k pieces of n bytes, and k words

module _ (n w : ℕ) (bytes : ℕ → List ℕ) (one : Undoes (IsPiece n) (IsWord w) le bytes) where
  bytes_of : (words : List ℕ) → All (IsWord w) words → IsPiece (length words * n) (flat_map bytes words)
      × (map le (first_chunks n (length words) (flat_map bytes words)) ≡ words)
  bytes_of [] are = ((All-nil IsByte, omega arith), refl)
  bytes_of (x ∷ words) are =
      let x_in = All-head (IsWord w) x words are in
      let here = one.back_in x x_in in
      let rest = bytes_of words (All-tail (IsWord w) x words are) in
      let after = flat_map bytes words in (
        (All-append IsByte (bytes x) after here.0 rest.0.0, omega (arith, length-append (bytes x) after, here.1, rest.0.1)),
        rw (take_at (bytes x) after n here.1, drop_at (bytes x) after n here.1)
            (ap₂ (λ (a : ℕ) (b : List ℕ). a ∷ b) (one.there x x_in) rest.1),
      )

  pub of_words : (k : ℕ) → Undoes (IsPiece (k * n)) (AreNWords w k) (λ c. map le (first_chunks n k c)) (flat_map bytes)
  of_words k =
      let words : (c : List ℕ) → IsPiece (k * n) c → AreNWords w k (map le (first_chunks n k c)) = λ c is.
      let pieces = first_chunks n k c in
      let are = first_chunks-pieces n k c is.0 (omega (arith, is.1)) in (
        length-map pieces le ∙ length-first_chunks n k c,
        AreWords-at w (map le pieces) (All-map (IsWord w) le pieces (λ i d i_in. one.there_in (get_or pieces i d) (are i d i_in))),
      ) in
      let back = λ (s : List ℕ) (s_in : AreNWords w k s). rw s_in.0 at (bytes_of s (AreWords-from w s s_in.1)) in
      record {
        there_in = words;
        back_in = λ s s_in. (back s s_in).0;
        back = λ c is. let c_in = words c is in all_words-same n k _ c (back _ c_in).0 is (back _ c_in).1;
        there = λ s s_in. (back s s_in).1;
      }

pub bytes_of-text : (w : Width) (words : List ℕ) → IsText (flat_map (to_le_bytes w) words)
bytes_of-text w [] = All-nil IsByte
bytes_of-text w (x ∷ words) =
    All-append IsByte (to_le_bytes w x) (flat_map (to_le_bytes w) words) (IsText-to_le_bytes w x) (bytes_of-text w words)

abbrev pub sums_3 : List Step
sums_3 = AddData 0 0 ∷ AddData 1 1 ∷ AddData 2 2 ∷ []

abbrev pub sums_4 : List Step
sums_4 = AddData 0 0 ∷ AddData 1 1 ∷ AddData 2 2 ∷ AddData 3 3 ∷ []

-- ---- words that are added to s, and what is missing to others

exchanged_3 : (s d : List ℕ) → length s ≡ 3 → length d ≡ 3 → apply 32 sums_3 d s ≡ apply 32 sums_3 s d
unfolding apply
exchanged_3 (a ∷ b ∷ c ∷ []) (x ∷ y ∷ z ∷ []) s_len d_len = rw (add_comm a x, add_comm b y, add_comm c z) refl
exchanged_3 s d s_len d_len = absurd (omega arith)

exchanged_4 : (s d : List ℕ) → length s ≡ 4 → length d ≡ 4 → apply 64 sums_4 d s ≡ apply 64 sums_4 s d
unfolding apply
exchanged_4 (a ∷ b ∷ c ∷ e ∷ []) (x ∷ y ∷ z ∷ t ∷ []) s_len d_len =
    rw (add_comm a x, add_comm b y, add_comm c z, add_comm e t) refl
exchanged_4 s d s_len d_len = absurd (omega arith)

differences_3-are : (from to : List ℕ) → length to ≡ 3 → differences 32 3 from to ≡ apply 32 (undo 32 sums_3) from to
unfolding apply undo
differences_3-are from (a ∷ b ∷ c ∷ []) len = refl
differences_3-are from to len = absurd (omega arith)

missing-is : (from to : List ℕ) → length to ≡ 4 → missing from to ≡ apply 64 (undo 64 sums_4) from to
unfolding apply undo
missing-is from (a ∷ b ∷ c ∷ d ∷ []) len = refl
missing-is from to len = absurd (omega arith)

module _ (s : List ℕ) where
  pub of_sums_3 : AreNWords 32 3 s → Undoes (AreNWords 32 3) (AreNWords 32 3) (λ d. apply 32 sums_3 d s) (differences 32 3 s)
  of_sums_3 s_in =
      likewise (λ d d_in. exchanged_3 s d s_in.0 d_in.0) (λ t t_in. differences_3-are s t t_in.0) (of_steps 32 3 3 s s_in.1 sums_3 refl)

  pub of_sums_4 : AreNWords 64 4 s → Undoes (AreNWords 64 4) (AreNWords 64 4) (λ d. apply 64 sums_4 d s) (missing s)
  of_sums_4 s_in =
      likewise (λ d d_in. exchanged_4 s d s_in.0 d_in.0) (λ t t_in. missing-is s t t_in.0) (of_steps 64 4 4 s s_in.1 sums_4 refl)
