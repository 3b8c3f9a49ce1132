-- A product with 0 forgets its other factor.
use Rattle.hash_theorems.proofs.Xxh3Common.{◌≡◌, ℕ, List, ◌++◌, length, drop, refl, sym, ◌∙◌, ap, arith, length-append, zero-mul, append_assoc, take_at, drop_at, add, le, word_at, drop-drop, folded_product, avalanche, xxh3_64_of}
use Rattle.std.specs.Int.Bits.{xor_self}
use Rattle.hash_xxh3.specs.Secret.{default_secret}
use Rattle.hash_xxh3.specs.Middle.{mix_piece, length_word, add_ends, of_128}

folded_product-zero : (y : ℕ) → folded_product 0 y ≡ 0
unfolding folded_product
folded_product-zero y = rw (zero-mul y) refl

module _ (seed : ℕ) (a b c : List ℕ) (a_long : length a ≡ 8) (b_long : length b ≡ 8) (c_long : length c ≡ 16)
    (blind : le a ≡ add 64 (word_at 0 default_secret) seed) where
  text : List ℕ
  text = a ++ (b ++ c)

  long : length text ≡ 32
  unfolding text
  long = omega (arith, length-append a (b ++ c), length-append b c)

  first_word : word_at 0 text ≡ le a
  unfolding text
  first_word = ap le (take_at a (b ++ c) 8 a_long)

  front : mix_piece seed text 0 0 ≡ 0
  unfolding mix_piece
  front = rw (first_word ∙ blind, xor_self (add 64 (word_at 0 default_secret) seed)) (folded_product-zero _)

  back : drop 16 text ≡ c
  unfolding text
  back = sym (ap (drop 16) (append_assoc a b c)) ∙ drop_at (a ++ b) c 16 (omega (arith, length-append a b))

  back_piece : mix_piece seed text 16 16 ≡ mix_piece seed c 0 16
  unfolding mix_piece
  back_piece =
      let far : drop 24 text ≡ drop 8 c = sym (drop-drop 8 16 text) ∙ ap (drop 8) back in
      rw (back, far) refl

  value : xxh3_64_of seed text ≡ avalanche (add 64 (add 64 (length_word 32) 0) (mix_piece seed c 0 16))
  unfolding xxh3_64_of of_128 add_ends
  value = rw (long, front, back_piece) refl

pub blinded : (seed : ℕ) (a b other c : List ℕ) → length a ≡ 8 → length b ≡ 8 → length other ≡ 8 → length c ≡ 16
    → le a ≡ add 64 (word_at 0 default_secret) seed → xxh3_64_of seed (a ++ (b ++ c)) ≡ xxh3_64_of seed (a ++ (other ++ c))
unfolding text
blinded seed a b other c a_long b_long other_long c_long blind =
    value seed a b c a_long b_long c_long blind ∙ sym (value seed a other c a_long other_long c_long blind)
