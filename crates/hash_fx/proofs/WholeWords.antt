-- The words of a text of whole words, and more.
use Rattle.hash_fx.proofs.Common.{◌≡◌, ℕ, ◌+◌, ◌-◌, ◌*◌, ◌/◌, ◌%◌, List, [], ◌++◌, length, drop, map, arith, refl, sym, ap, ◌∙◌, append_assoc, ap₂, append-nil, map-append, length-append, drop_all, first_chunks, le, pieces, words32, words64}
use Rattle.std.proofs.Math.Seq.{drop-append-add}
use Rattle.hash_words.proofs.Chunks.{first_chunks-append}

-- the first text is i words of n bytes
words-append : (n : ℕ) (rest : List ℕ → List ℕ) (a b : List ℕ) (i j k : ℕ) → rest [] ≡ [] → k ≡ i + j → length a ≡ i * n
    → k * n ≡ length a + j * n
    → map le (first_chunks n k (a ++ b)) ++ rest (drop (k * n) (a ++ b))
    ≡ (map le (first_chunks n i a) ++ rest (drop (i * n) a)) ++ (map le (first_chunks n j b) ++ rest (drop (j * n) b))
words-append n rest a b i j k none sum whole places =
    let words : map le (first_chunks n k (a ++ b)) ≡ map le (first_chunks n i a) ++ map le (first_chunks n j b) =
    ap (map le) (first_chunks-append n i j k a b sum whole) ∙ map-append le _ _ in
    let left : drop (k * n) (a ++ b) ≡ drop (j * n) b = ap (λ m. drop m (a ++ b)) places ∙ drop-append-add a b (j * n) in
    let no_rest : map le (first_chunks n i a) ++ rest (drop (i * n) a) ≡ map le (first_chunks n i a) =
    ap (λ t. map le (first_chunks n i a) ++ t) (ap rest (drop_all (i * n) a (omega arith)) ∙ none) ∙ append-nil _ in
    ap₂ (λ s t. s ++ rest t) words left ∙ append_assoc (map le (first_chunks n i a)) (map le (first_chunks n j b)) (rest (drop (j * n) b))
    ∙ ap (λ s. s ++ (map le (first_chunks n j b) ++ rest (drop (j * n) b))) (sym no_rest)

pub words32-append : (a b : List ℕ) → length a % 4 ≡ 0 → words32 (a ++ b) ≡ words32 a ++ words32 b
unfolding pieces
words32-append a b whole =
    let size = length-append a b in
    words-append 4 (λ t. t) a b (length a / 4) (length b / 4) (length (a ++ b) / 4) refl (omega (arith, size)) (omega arith)
    (omega (arith, size))

pub words64-append : (a b : List ℕ) → length a % 8 ≡ 0 → words64 (a ++ b) ≡ words64 a ++ words64 b
unfolding pieces
words64-append a b whole =
    let size = length-append a b in
    words-append 8 words32 a b (length a / 8) (length b / 8) (length (a ++ b) / 8) refl (omega (arith, size)) (omega arith)
    (omega (arith, size))
