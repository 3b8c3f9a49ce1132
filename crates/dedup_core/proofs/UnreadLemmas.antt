-- Bytes that were read and are not taken yet.
use Rattle.dedup_core.proofs.Common.{◌≡◌, ℕ, ◌+◌, ◌-◌, ◌≤◌, true, false, List, ◌++◌, length, take, drop, Option, None, Some, ap, subst, ◌∙◌, arith, length-append, length-drop, is_some, false≢true, true≢false, drop-drop, drop-take, get_or-drop, take-append-le, take_all, IsBare, IsLineEnd, common_steps, nat_tests}
use Rattle.std.proofs.lemmas.List.{length-take-le}
use Rattle.std.proofs.Math.Seq.{drop-append_seam, take-append-add}
use borrow.Rule.Slice.PartMut.{put_mid}

-- more bytes from the front are taken
pub pass_more : (xs : List ℕ) (from to n : ℕ) → n ≤ to - from
    → take (to - (from + n)) (drop (from + n) xs) ≡ drop n (take (to - from) (drop from xs))
pass_more xs from to n most = grind (arith, nat_tests, common_steps, drop-drop n from xs, drop-take n (to - (from + n)) (drop from xs))

tail_is : (bytes : List ℕ) (n : ℕ) → take (length bytes - n) (drop n bytes) ≡ drop n bytes
tail_is bytes n = take_all (length bytes - n) (drop n bytes) (omega (arith, length-drop n bytes))

module _ (eol : ℕ) where
  pub bare_both : (a b : List ℕ) → IsBare eol a → IsBare eol b → IsBare eol (a ++ b)
  bare_both a b bare_a bare_b = grind (arith, nat_tests, common_steps, length-append a b)

  -- where an end is found behind so many bytes, there is one
  pub found_end : (bytes : List ℕ) (n : ℕ) (result : Option ℕ) → IsLineEnd eol (take (length bytes - n) (drop n bytes)) result
      → is_some result ≡ true → ¬ (IsBare eol) bytes
  found_end bytes n result at found = grind (arith, nat_tests, common_steps, tail_is, false≢true, length-drop, get_or-drop)

  -- where none is found behind so many bytes, the rest has none
  pub found_none : (bytes front back : List ℕ) (n : ℕ) (result : Option ℕ) → IsLineEnd eol (take (length bytes - n) (drop n bytes)) result
      → is_some result ≡ false → bytes ≡ front ++ back → n ≡ length front → IsBare eol back
  found_none bytes front back n (Some k) at none is long = absurd (true≢false none)
  found_none bytes front back n None at none is long =
      subst (IsBare eol) (tail_is bytes n ∙ ap (λ m. drop m bytes) long ∙ ap (drop (length front)) is ∙ drop-append_seam front back) at

-- what was read stands behind what was there
pub read_put : (xs room : List ℕ) (to k n : ℕ) → to ≤ length xs → n ≤ length room
    → take (to + n) (put_mid to k xs room) ≡ take to xs ++ take n room
read_put xs room to k n within most = grind (arith, nat_tests, common_steps, length-take-le, take-append-add, take-append-le)
