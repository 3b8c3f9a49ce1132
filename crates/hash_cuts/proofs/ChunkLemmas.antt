-- The chunks of a text: the first one, and those of the rest.
use Rattle.hash_cuts.proofs.Common.{◌≡◌, ℕ, zero, suc, ◌<◌, ◌≤◌, List, [], ◌∷◌, length, take, drop, arith, ap, refl, cases_lt, AreSizes, Cutting, chunks, chunks_upto, first_cut, length-drop, nat_tests, common_steps}
use Rattle.hash_cuts.proofs.CutLemmas.{first_cut-is, latest}

module _ (cuts : Cutting) (sizes : AreSizes cuts.least cuts.average cuts.most) where
  -- a chunk has a byte, and no more than the text
  pub first_cut-some : (text : List ℕ) → 0 < length text → 0 < first_cut cuts text
  first_cut-some text some = grind (arith, nat_tests, common_steps, first_cut-is, cases_lt, latest)

  pub first_cut-le : (text : List ℕ) → first_cut cuts text ≤ length text
  first_cut-le text = omega (arith, (first_cut-is cuts text).within)

  -- as many chunks as there are bytes are all chunks
  chunks_upto-enough : (n k : ℕ) (text : List ℕ) → length text ≤ n → length text ≤ k → chunks_upto n cuts text ≡ chunks_upto k cuts text
  unfolding chunks_upto
  chunks_upto-enough zero zero text n_in k_in = refl
  chunks_upto-enough zero (suc k) [] n_in k_in = refl
  chunks_upto-enough zero (suc k) (byte ∷ text) n_in k_in = absurd (omega arith)
  chunks_upto-enough (suc n) zero [] n_in k_in = refl
  chunks_upto-enough (suc n) zero (byte ∷ text) n_in k_in = absurd (omega arith)
  chunks_upto-enough (suc n) (suc k) [] n_in k_in = refl
  chunks_upto-enough (suc n) (suc k) (byte ∷ text) n_in k_in =
      let whole = byte ∷ text in
      let cut = first_cut cuts whole in
      let some : 0 < cut = first_cut-some whole (omega arith) in
      let left = length-drop cut whole in
      ap (λ rest. take cut whole ∷ rest) (chunks_upto-enough n k (drop cut whole) (omega (arith, some, left)) (omega (arith, some, left)))

  pub chunks-first : (text : List ℕ) → 0 < length text
      → chunks cuts text ≡ take (first_cut cuts text) text ∷ chunks cuts (drop (first_cut cuts text) text)
  unfolding chunks_upto
  chunks-first [] some = absurd (omega arith)
  chunks-first (byte ∷ text) some = grind (arith, nat_tests, common_steps, first_cut-some, length-drop, chunks_upto-enough)

pub chunks-none : (cuts : Cutting) (text : List ℕ) → length text ≡ 0 → chunks cuts text ≡ []
unfolding chunks_upto
chunks-none cuts [] none = refl
chunks-none cuts (byte ∷ text) none = absurd (omega arith)
