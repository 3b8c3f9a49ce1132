-- Whether two lists of pieces differ at exactly one word, by counting.
use Rattle.hash_theorems.proofs.FxCommon.{◌≡◌, ◌↔◌, ℕ, zero, suc, ◌+◌, ◌<◌, ◌≤◌, Bor, List, [], ◌∷◌, length, take, drop, get_or, flat_map, arith, refl, sym, ◌∙◌, ap₂, texts, differences, DifferByOneWord, common_steps, nat_tests, rules}
use Rattle.std.proofs.Common.{length-append}
use Rattle.hash_fx.proofs.CutsLemmas.{Pieces, SameCuts, SameCuts-length}
use Rattle.hash_theorems.proofs.DifferencesLemmas.{differences-append, one-OneApart, OneApart-one}
use Rattle.hash_fx.proofs.OneApart.{one_from_DifferAtOnePlace, DifferAtOnePlace-from_one}

-- the words of all pieces
abbrev pub words_of : (List ℕ → List ℕ) → Pieces → List ℕ
words_of words x = flat_map words (texts x)

module _ (words : List ℕ → List ℕ) (long : (x y : List ℕ) → length x ≡ length y → length (words x) ≡ length (words y)) where
  as-many : (x y : Pieces) → SameCuts x y → length (words_of words x) ≡ length (words_of words y)
  as-many [] [] cuts = refl
  as-many [] (q ∷ y) cuts = cc
  as-many (p ∷ x) [] cuts = cc
  as-many (p ∷ x) (q ∷ y) cuts =
      let len : length p.now ≡ length q.now = cc in
      let later : SameCuts x y = cc in
      length-append (words p.now) (words_of words x) ∙ ap₂ (λ m n. m + n) (long p.now q.now len) (as-many x y later)
      ∙ sym (length-append (words q.now) (words_of words y))

  first-and-rest : (p q : Bor (List ℕ)) (x y : Pieces) → length p.now ≡ length q.now
      → differences (words_of words (p ∷ x)) (words_of words (q ∷ y))
      ≡ differences (words p.now) (words q.now) + differences (words_of words x) (words_of words y)
  first-and-rest p q x y len = differences-append (words p.now) (words q.now) (words_of words x) (words_of words y) (long p.now q.now len)

  one-more : (x y : Pieces) (i : ℕ) (d : Bor (List ℕ)) → SameCuts x y → i < length x
      → differences (words_of words (take (suc i) x)) (words_of words (take (suc i) y))
      ≡ differences (words_of words (take i x)) (words_of words (take i y))
      + differences (words (get_or x i d).now) (words (get_or y i d).now)
  one-more [] y i d cuts below = absurd (omega (arith, below))
  one-more (p ∷ x) [] i d cuts below = cc
  one-more (p ∷ x) (q ∷ y) zero d cuts below = grind (arith, nat_tests, common_steps, first-and-rest)
  one-more (p ∷ x) (q ∷ y) (suc i) d cuts below =
      let len : length p.now ≡ length q.now = cc in
      let later : SameCuts x y = cc in
      let longer = first-and-rest p q (take (suc i) x) (take (suc i) y) len in
      let shorter = first-and-rest p q (take i x) (take i y) len in
      let rest = one-more x y i d later (omega (arith, below)) in
      omega (arith, longer, shorter, rest)

  -- a turn of the loop
  pub more-words : (x y : Pieces) (i : ℕ) (d : Bor (List ℕ)) → SameCuts x y → i < length x
      → differences (words_of words (take (i + 1) x)) (words_of words (take (i + 1) y))
      ≡ differences (words_of words (take i x)) (words_of words (take i y))
      + differences (words (get_or x i d).now) (words (get_or y i d).now)
  more-words x y i d cuts below = search (rules, one-more)

  in-two : (x y : Pieces) (i : ℕ) → SameCuts x y
      → differences (words_of words x) (words_of words y)
      ≡ differences (words_of words (take i x)) (words_of words (take i y))
      + differences (words_of words (drop i x)) (words_of words (drop i y))
  in-two x y zero cuts = omega arith
  in-two [] [] (suc i) cuts = refl
  in-two [] (q ∷ y) (suc i) cuts = cc
  in-two (p ∷ x) [] (suc i) cuts = cc
  in-two (p ∷ x) (q ∷ y) (suc i) cuts =
      let len : length p.now ≡ length q.now = cc in
      let later : SameCuts x y = cc in
      let whole = first-and-rest p q x y len in
      grind (arith, nat_tests, common_steps, first-and-rest p q (take i x) (take i y) len, take i x, take i y, in-two x y i later)

  -- one difference in all is one word
  pub DifferByOneWord-iff : (x y : Pieces) → SameCuts x y → (differences (words_of words x) (words_of words y) ≡ 1)
      ↔ DifferByOneWord words x y
  DifferByOneWord-iff x y cuts = search (rules, DifferAtOnePlace-from_one, one-OneApart, as-many, OneApart-one, one_from_DifferAtOnePlace)

  -- two differences are too many
  pub too-many : (x y : Pieces) (i : ℕ) → SameCuts x y → 1 < differences (words_of words (take i x)) (words_of words (take i y))
      → DifferByOneWord words x y → ⊥
  too-many x y i cuts many d = omega (arith, many, in-two x y i cuts, (DifferByOneWord-iff x y cuts).1 d)

  -- all pieces
  pub at-the-end : (x y : Pieces) (i : ℕ) → SameCuts x y → length x ≤ i
      → differences (words_of words (take i x)) (words_of words (take i y)) ≡ differences (words_of words x) (words_of words y)
  at-the-end x y i cuts end = grind (arith, nat_tests, common_steps, SameCuts-length x y cuts)
