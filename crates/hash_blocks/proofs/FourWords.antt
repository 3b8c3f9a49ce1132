-- The four words of a block: of XXH32 as the halves of two words of eight bytes, of XXH64 as those of two halves of the block.
use Rattle.std.proofs.Common.{◌≡◌, ℕ, ◌+◌, ◌-◌, ◌*◌, ◌/◌, ◌%◌, ◌^◌, ◌<◌, List, [], ◌∷◌, length, take, drop, refl, sym, ap, ◌∙◌, arith, lit≤, length-drop}
use Rattle.std.proofs.lemmas.List.{take-take, drop-take, drop-drop, take_all, length-take-le}
use Rattle.std.proofs.lemmas.List.Elements.{All-take, All-drop}
use Rattle.hash_words.specs.Words.{le}
use Rattle.hash_words.specs.Pieces.{le_words, pieces}
use Rattle.hash_words.proofs.ByteLemmas.{le-few}
use Rattle.hash_words.proofs.PieceLemmas.{AreBytes, IsByte}
use Rattle.hash_blocks.proofs.WordLemmas.{le-four}
use Rattle.hash_blocks.specs.Xxh32.{words_of}

module _ (t : List ℕ) (are : AreBytes t) (eight : length t ≡ 8) where
  joined : le t ≡ le (take 4 t) + le (drop 4 t) * 2 ^ 32
  joined = le-four t (omega arith)

  below : le (take 4 t) < 256 ^ 4
  below = le-few 4 (take 4 t) (All-take IsByte 4 t are) (omega (arith, length-take-le 4 t (omega arith)))

  low : le t % 2 ^ 32 ≡ le (take 4 t)
  low = omega (arith, joined, below)

  high : le t / 2 ^ 32 ≡ le (drop 4 t)
  high = omega (arith, joined, below)

module _ (b : List ℕ) (are : AreBytes b) (sixteen : length b ≡ 16) where
  pub four_words : words_of b
      ≡ le (take 8 b) % 2 ^ 32 ∷ le (take 8 b) / 2 ^ 32 ∷ le (drop 8 b) % 2 ^ 32 ∷ le (drop 8 b) / 2 ^ 32 ∷ []
  unfolding words_of pieces
  four_words =
      let t = take 8 b in
      let u = drop 8 b in
      let t_are : AreBytes t = All-take IsByte 8 b are in
      let u_are : AreBytes u = All-drop IsByte 8 b are in
      let t_eight : length t ≡ 8 = length-take-le 8 b (omega arith) in
      let u_eight : length u ≡ 8 = length-drop 8 b ∙ (let e : length b - 8 ≡ 8 = omega arith in e) in
      let first : le (take 4 b) ≡ le t % 2 ^ 32 = ap le (sym (take-take 4 8 b (lit≤ tt))) ∙ sym (low t t_are t_eight) in
      let second : le (take 4 (drop 4 b)) ≡ le t / 2 ^ 32 = ap le (sym (drop-take 4 4 b)) ∙ sym (high t t_are t_eight) in
      let third : le (take 4 (drop 4 (drop 4 b))) ≡ le u % 2 ^ 32 = ap (λ l. le (take 4 l)) (drop-drop 4 4 b) ∙ sym (low u u_are u_eight) in
      let fourth : le (take 4 (drop 4 (drop 4 (drop 4 b)))) ≡ le u / 2 ^ 32 =
      ap (λ l. le (take 4 (drop 4 l))) (drop-drop 4 4 b)
      ∙ ap le (take_all 4 (drop 4 u) (omega (arith, u_eight, length-drop 4 u))) ∙ sym (high u u_are u_eight) in
      rw (sixteen, first, second, third, fourth) refl

-- 32 bytes
pub words_by_two : (b : List ℕ) → length b ≡ 32 → le_words b
    ≡ le (take 8 (take 16 b)) ∷ le (drop 8 (take 16 b)) ∷ le (take 8 (take 16 (drop 16 b))) ∷ le (drop 8 (take 16 (drop 16 b))) ∷ []
unfolding le_words pieces
words_by_two b long =
    let u = drop 16 b in
    let place : drop 8 (drop 8 b) ≡ u = drop-drop 8 8 b in
    let first : le (take 8 b) ≡ le (take 8 (take 16 b)) = ap le (sym (take-take 8 16 b (lit≤ tt))) in
    let second : le (take 8 (drop 8 b)) ≡ le (drop 8 (take 16 b)) = ap le (sym (drop-take 8 8 b)) in
    let third : le (take 8 (drop 8 (drop 8 b))) ≡ le (take 8 (take 16 u)) =
    ap (λ l. le (take 8 l)) place ∙ ap le (sym (take-take 8 16 u (lit≤ tt))) in
    let fourth : le (take 8 (drop 8 (drop 8 (drop 8 b)))) ≡ le (drop 8 (take 16 u)) =
    ap (λ l. le (take 8 (drop 8 l))) place ∙ ap le (sym (drop-take 8 8 u)) in
    rw (long, first, second, third, fourth) refl
