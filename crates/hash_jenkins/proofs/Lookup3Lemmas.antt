-- Words of blocks, whole and filled with zeros.
use Rattle.hash_jenkins.proofs.Common.{◌≡◌, ℕ, zero, suc, ◌+◌, ◌-◌, ◌*◌, ◌/◌, ◌≤◌, List, [], ◌∷◌, ◌++◌, ◌<◌, length, take, drop, replicate, refl, ap, sym, ◌∙◌, arith, ap₂, drop-drop, take_all, drop_all, pieces, apply, zero_filled, add_words, add_block, block_words, mix_block, mix_blocks, start, last_block, lookup3_words, lookup3_from, lookup3_answer, AreTwoWords}
use Rattle.std.proofs.lemmas.List.{length-drop}
use Rattle.std.specs.Simd.{first_chunks}
use Rattle.hash_words.specs.Words.{le}
use Rattle.hash_rounds.specs.Rounds as rounds

pub drop_eight : (xs : List ℕ) → drop 4 (drop 4 xs) ≡ drop 8 xs
drop_eight xs = drop-drop 4 4 xs

pub ruleset places = (drop_eight)

le-zeros : (n m : ℕ) → le (take n (replicate m 0)) ≡ 0
unfolding le
le-zeros zero m = refl
le-zeros (suc n) zero = refl
le-zeros (suc n) (suc m) = let e = le-zeros n m in omega arith

le-drop_zeros : (n k m : ℕ) → le (take n (drop k (replicate m 0))) ≡ 0
unfolding le
le-drop_zeros n zero m = le-zeros n m
le-drop_zeros zero (suc k) zero = refl
le-drop_zeros (suc n) (suc k) zero = refl
le-drop_zeros n (suc k) (suc m) = le-drop_zeros n k m

le-take_filled : (n m : ℕ) (t : List ℕ) → le (take n (t ++ replicate m 0)) ≡ le (take n t)
unfolding le
le-take_filled zero m t = refl
le-take_filled (suc n) m [] = le-zeros (suc n) m
le-take_filled (suc n) m (b ∷ t) = ap (λ v. b + 256 * v) (le-take_filled n m t)

-- zeros after a text change none of its words
le-filled : (n k m : ℕ) (t : List ℕ) → le (take n (drop k (t ++ replicate m 0))) ≡ le (take n (drop k t))
unfolding le
le-filled n zero m t = le-take_filled n m t
le-filled zero (suc k) m [] = le-drop_zeros zero (suc k) m
le-filled (suc n) (suc k) m [] = le-drop_zeros (suc n) (suc k) m
le-filled n (suc k) m (b ∷ t) = le-filled n k m t

-- the words of fewer than four bytes
pub words_of_few : (t : List ℕ) → length t < 4 → (le (take 4 t) ≡ le t) × (le (take 4 (drop 4 t)) ≡ 0) × (le (take 4 (drop 8 t)) ≡ 0)
unfolding le
words_of_few t few =
    (rw (take_all 4 t (omega arith)) refl, rw (drop_all 4 t (omega arith)) refl, rw (drop_all 8 t (omega arith)) refl)

-- the words of a text, and those of the text with zeros behind it
pub words_of_filled : (n : ℕ) (t : List ℕ) → block_words t ≡ block_words (zero_filled n t)
words_of_filled n t =
    let m = n - length t in
    rw (le-take_filled 4 m t, le-filled 4 4 m t, le-filled 4 8 m t) refl

-- the words of a text are added as those of the text with zeros behind it
pub added_filled : (n : ℕ) (s added t : List ℕ) (words : ℕ × ℕ × ℕ) → added ≡ add_words s words → words ≡ block_words t
    → added ≡ add_block s (zero_filled n t)
added_filled n s added t words are of = are ∙ ap (add_words s) (of ∙ words_of_filled n t)

-- a, b and c before the last mixing, of a piece that is still to come
abbrev pub blocks_in : List ℕ → List ℕ → List ℕ
blocks_in s piece = add_block (mix_blocks s (pieces 12 piece)) (last_block piece)

-- less than a block
pub few_in : (s piece : List ℕ) → length piece < 12 → add_block s (zero_filled 12 piece) ≡ blocks_in s piece
unfolding last_block pieces
few_in s piece few =
    let none : length piece / 12 ≡ 0 = omega (arith, few) in
    rw (none) refl

-- the first block mixed, and the rest
pub block_in : (s piece : List ℕ) → 12 ≤ length piece → blocks_in (mix_block s (take 12 piece)) (drop 12 piece) ≡ blocks_in s piece
unfolding last_block pieces
block_in s piece some =
    let k = length (drop 12 piece) / 12 in
    let count : suc k ≡ length piece / 12 = omega (arith, length-drop 12 piece) in
    let behind : drop (k * 12) (drop 12 piece) ≡ drop (length piece / 12 * 12) piece
    = drop-drop (k * 12) 12 piece ∙ ap (λ n. drop n piece) (omega (arith, count)) in
    ap₂ add_block (ap (λ n. mix_blocks s (first_chunks 12 n piece)) count) (ap (zero_filled 12) behind)

-- the words after the last mixing
pub lookup3_words_from : (pc pb : ℕ) (piece first added end : List ℕ) → first ≡ start pc pb (length piece)
    → added ≡ blocks_in first piece → end ≡ apply 32 rounds.lookup3_final_steps [] added
    → end ≡ lookup3_words pc pb piece
lookup3_words_from pc pb piece first added end began filled last =
    last ∙ ap (apply 32 rounds.lookup3_final_steps []) (filled ∙ ap (λ s. blocks_in s piece) began)

-- the answer tells all of two words
pub lookup3_answer-same : (s t : ℕ × ℕ) → AreTwoWords s → AreTwoWords t → lookup3_answer s ≡ lookup3_answer t → s ≡ t
lookup3_answer-same s t ks kt same =
    let low : s.0 ≡ t.0 = omega (arith, same, ks.0, ks.1, kt.0, kt.1) in
    let high : s.1 ≡ t.1 = omega (arith, same, ks.0, ks.1, kt.0, kt.1) in
    ap₂ (λ (x y : ℕ). (x, y)) low high

-- hashers that answer alike do so after a piece fed to both
pub lookup3_alike : (s t u v : ℕ × ℕ) (piece : List ℕ) → AreTwoWords s → AreTwoWords t → lookup3_answer s ≡ lookup3_answer t
    → u ≡ lookup3_from s piece → v ≡ lookup3_from t piece → lookup3_answer u ≡ lookup3_answer v
lookup3_alike s t u v piece ks kt same us vt =
    ap lookup3_answer (us ∙ ap (λ (r : ℕ × ℕ). lookup3_from r piece) (lookup3_answer-same s t ks kt same) ∙ sym vt)
