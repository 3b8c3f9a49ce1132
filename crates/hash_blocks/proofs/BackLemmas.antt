-- SipHash's rounds and words, there and back.
use Rattle.hash_blocks.proofs.SipCommon.{◌≡◌, ℕ, zero, suc, ◌^◌, ◌<◌, List, [], slice_index, refl, sym, ap, fill_by_all, apply, undo, of_steps, ◌▷◌, likewise, unmoved, round_steps, rounds, xored, after_word, unrounds, before_word}
use Rattle.std.proofs.lemmas.Nat.{xor_lt, pow_pos}
use Rattle.hash_rounds.proofs.RoundLemmas.{AreFourWords, words-listed}
use Rattle.hash_words.specs.Undoes.{Undoes}
use Rattle.hash_words.proofs.WordLemmas.{no_words}
use Rattle.hash_words.proofs.XorLemmas.{xor_twice}

of_round : Undoes AreFourWords AreFourWords (apply 64 round_steps []) (apply 64 (undo 64 round_steps) [])
unfolding round_steps
of_round = of_steps 64 4 0 [] (no_words 64) round_steps refl

unrounds-first : (n : ℕ) (v : List ℕ) → apply 64 (undo 64 round_steps) [] (unrounds n v) ≡ unrounds n (apply 64 (undo 64 round_steps) [] v)
unfolding unrounds
unrounds-first zero v = refl
unrounds-first (suc n) v = ap (apply 64 (undo 64 round_steps) []) (unrounds-first n v)

of_rounds : (n : ℕ) → Undoes AreFourWords AreFourWords (rounds n) (unrounds n)
unfolding rounds unrounds
of_rounds zero = likewise (λ v _. refl) (λ v _. refl) unmoved
of_rounds (suc n) = likewise (λ v _. refl) (λ v _. unrounds-first n v) (of_rounds n ▷ of_round)

pub rounds-in : (n : ℕ) (v : List ℕ) → AreFourWords v → AreFourWords (rounds n v)
rounds-in n = (of_rounds n).there_in

-- ---- words

module _ (a b c d : ℕ) (v : List ℕ) (v_in : AreFourWords v) where
  xored-twice : xored a b c d (xored a b c d v) ≡ v
  unfolding xored
  xored-twice =
      rw (xor_twice (slice_index v 0) a, xor_twice (slice_index v 1) b, xor_twice (slice_index v 2) c, xor_twice (slice_index v 3) d)
      (sym (fill_by_all (slice_index v) v 4 0 v_in.0 (λ k _. refl)))

  pub xored-in : a < 2 ^ 64 → b < 2 ^ 64 → c < 2 ^ 64 → d < 2 ^ 64 → AreFourWords (xored a b c d v)
  unfolding xored
  xored-in a_in b_in c_in d_in = words-listed 64 (xored a b c d v) (
    xor_lt 64 (slice_index v 0) a (v_in.1 0) a_in,
    (xor_lt 64 (slice_index v 1) b (v_in.1 1) b_in, (xor_lt 64 (slice_index v 2) c (v_in.1 2) c_in, (xor_lt 64 (slice_index v 3) d (v_in.1 3) d_in, tt))),
  )

of_xored : (a d : ℕ) → a < 2 ^ 64 → d < 2 ^ 64 → Undoes AreFourWords AreFourWords (xored a 0 0 d) (xored a 0 0 d)
of_xored a d a_in d_in =
    let kept = λ (v : List ℕ) (v_in : AreFourWords v). xored-in a 0 0 d v v_in a_in (pow_pos 64) (pow_pos 64) d_in in
    record { there_in = kept; back_in = kept; back = xored-twice a 0 0 d; there = xored-twice a 0 0 d }

pub of_word : (c word : ℕ) → word < 2 ^ 64 → Undoes AreFourWords AreFourWords (λ v. after_word c v word) (λ v. before_word c v word)
unfolding after_word before_word
of_word c word word_in = of_xored 0 word (pow_pos 64) word_in ▷ of_rounds c ▷ of_xored word 0 word_in (pow_pos 64)
