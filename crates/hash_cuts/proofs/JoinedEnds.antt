-- Where the chunks of joined lists end, and those behind a chunk's end.
use Rattle.hash_cuts.proofs.Common.{◌≡◌, ℕ, ◌+◌, List, [], ◌∷◌, ◌++◌, length, length-append, map, get_or, drop, take, refl, arith, ap, ap₂, sym, ◌∙◌, concat, take-append_seam, Cutting, HasSizes, chunk_ends, chunks, ends_from, nat_tests, common_steps}
use Rattle.std.proofs.lemmas.List.Folds.{concat-append}
use Rattle.hash_cuts.proofs.InStep.{behind, chunks-joined}

pub ends-joined : (place : ℕ) (xs ys : List (List ℕ))
    → ends_from place (xs ++ ys) ≡ ends_from place xs ++ ends_from (place + length (concat xs)) ys
unfolding ends_from
ends-joined place [] ys = ap (λ n. ends_from n ys) (omega arith)
ends-joined place (x ∷ xs) ys =
    let end = place + length x in
    ap (λ (t : List ℕ). end ∷ t) (ends-joined end xs ys ∙ ap (λ n. ends_from end xs ++ ends_from n ys) (omega (arith, length-append x (concat xs))))

pub ends-moved : (place more : ℕ) (xs : List (List ℕ)) → ends_from (place + more) xs ≡ map (λ end. end + more) (ends_from place xs)
unfolding ends_from
ends-moved place more [] = refl
ends-moved place more (x ∷ xs) = grind (arith, nat_tests, common_steps, ends-moved (place + length x) more xs)

-- the chunks before an end, and those behind it
record SplitAt (place : ℕ) (list : List (List ℕ)) (end : ℕ) (after : List ℕ) : Type 0 where
  xs : List (List ℕ)
  ys : List (List ℕ)
  both : list ≡ xs ++ ys
  length_is : place + length (concat xs) ≡ end
  after_is : after ≡ ends_from end ys

split-at : (before : List ℕ) (place : ℕ) (list : List (List ℕ)) (end : ℕ) (after : List ℕ) → ends_from place list ≡ before ++ end ∷ after
    → SplitAt place list end after
unfolding ends_from
split-at [] place [] end after are = absurd (omega (arith, ap length are))
split-at (b ∷ before) place [] end after are = absurd (omega (arith, ap length are))
split-at [] place (x ∷ list) end after are =
    let first : place + length x ≡ end = ap (λ (t : List ℕ). get_or t 0 0) are in
    record {
      xs = x ∷ [];
      ys = list;
      both = refl;
      length_is = omega (arith, first, length-append x []);
      after_is = sym (ap (drop 1) are) ∙ ap (λ n. ends_from n list) first;
    }
split-at (b ∷ before) place (x ∷ list) end after are =
    let rest = split-at before (place + length x) list end after (ap (drop 1) are) in
    record {
      xs = x ∷ rest.xs;
      ys = rest.ys;
      both = ap (λ (t : List (List ℕ)). x ∷ t) rest.both;
      length_is = omega (arith, rest.length_is, length-append x (concat rest.xs));
      after_is = rest.after_is;
    }

pub ends-behind : (cuts : Cutting) (x same before after : List ℕ) → HasSizes cuts → chunk_ends cuts (x ++ same) ≡ before ++ length x ∷ after
    → after ≡ map (λ end. end + length x) (chunk_ends cuts same)
ends-behind cuts x same before after sizes are =
    let at = split-at before 0 (chunks cuts (x ++ same)) (length x) after are in
    let joined : concat at.xs ++ concat at.ys ≡ x ++ same =
    sym (concat-append at.xs at.ys) ∙ ap concat (sym at.both) ∙ chunks-joined cuts sizes (x ++ same) in
    let front : concat at.xs ≡ x =
    sym (take-append_seam (concat at.xs) (concat at.ys)) ∙ ap₂ (λ (n : ℕ) (t : List ℕ). take n t) (omega (arith, at.length_is)) joined
    ∙ take-append_seam x same in
    at.after_is ∙ ap (ends_from (length x)) (behind cuts sizes at.xs x same at.ys at.both front)
    ∙ ap (λ n. ends_from n (chunks cuts same)) (omega arith) ∙ ends-moved 0 (length x) (chunks cuts same)
