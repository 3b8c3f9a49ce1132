-- Numbers written over others one after another.
use Rattle.hash_c.proofs.Common.{ℕ, suc, zero, ◌≡◌, ◌+◌, ◌<◌, ◌≤◌, List, [], ◌∷◌, ◌++◌, length, get_or, map, set, take, refl, sym, ap, ◌∙◌, arith, length-map, map-append, laid_over}

-- one number more, where there is room
pub laid_one_more : (numbers others : List ℕ) (x : ℕ) → length numbers < length others
    → set (laid_over numbers others) (length numbers) x ≡ laid_over (numbers ++ x ∷ []) others
laid_one_more numbers [] x room = absurd (omega arith)
laid_one_more [] (other ∷ []) x room = refl
laid_one_more [] (other ∷ next ∷ others) x room = refl
laid_one_more (number ∷ numbers) (other ∷ others) x room = ap (λ l. number ∷ l) (laid_one_more numbers others x (omega arith))

-- and where there is none
pub laid_no_more : (numbers others : List ℕ) (x : ℕ) → length others ≤ length numbers
    → laid_over (numbers ++ x ∷ []) others ≡ laid_over numbers others
laid_no_more [] [] x full = refl
laid_no_more (number ∷ numbers) [] x full = refl
laid_no_more [] (other ∷ others) x full = absurd (omega arith)
laid_no_more (number ∷ numbers) (other ∷ others) x full = ap (λ l. number ∷ l) (laid_no_more numbers others x (omega arith))

-- the next of the numbers, where there is room
pub laid_next : (numbers others : List ℕ) (i : ℕ) → i < length numbers → i < length others
    → set (laid_over (take i numbers) others) i (get_or numbers i 0) ≡ laid_over (take (i + 1) numbers) others
laid_next [] others i within room = absurd (omega arith)
laid_next (number ∷ numbers) [] i within room = absurd (omega arith)
laid_next (number ∷ numbers) (other ∷ []) zero within room = refl
laid_next (number ∷ numbers) (other ∷ next ∷ others) zero within room = refl
laid_next (number ∷ numbers) (other ∷ others) (suc i) within room =
    let one_more : suc (i + 1) ≡ suc i + 1 = omega arith in
    ap (λ l. number ∷ l) (laid_next numbers others i (omega arith) (omega arith))
    ∙ ap (λ k. laid_over (take k (number ∷ numbers)) (other ∷ others)) one_more

-- the hashes of one line more
module _ (hash : List ℕ → ℕ) (so_far : List (List ℕ)) (line others : List ℕ) (count : ℕ) (is : count ≡ length so_far) where
  pub hashed_one_more : count < length others
      → set (laid_over (map hash so_far) others) count (hash line) ≡ laid_over (map hash (so_far ++ line ∷ [])) others
  hashed_one_more room =
      ap (λ n. set (laid_over (map hash so_far) others) n (hash line)) (is ∙ sym (length-map so_far hash))
      ∙ laid_one_more (map hash so_far) others (hash line) (omega (arith, is, room, length-map so_far hash))
      ∙ sym (ap (λ l. laid_over l others) (map-append hash so_far (line ∷ [])))

  pub hashed_no_more : length others ≤ count → laid_over (map hash so_far) others ≡ laid_over (map hash (so_far ++ line ∷ [])) others
  hashed_no_more full =
      sym (laid_no_more (map hash so_far) others (hash line) (omega (arith, is, full, length-map so_far hash)))
      ∙ sym (ap (λ l. laid_over l others) (map-append hash so_far (line ∷ [])))
