-- Laws of positions, which the impls of SpookyHasher cite: a position depends on the whole text alone, not on its cuts.
use Rattle.std.proofs.Common.{◌≡◌, ℕ, ◌+◌, ◌*◌, ◌/◌, ◌%◌, ◌<◌, ◌^◌, nat_lt, Bool, true, false, List, [], ◌∷◌, ◌++◌, length, take, drop, refl, sym, ap, ◌∙◌, arith, lit<, length-append}
use Rattle.std.proofs.lemmas.Bool.Decides.{nat_tests}
use Rattle.std.proofs.lemmas.List.{append_assoc, append-nil, take-append-drop, drop_at, drop-drop, length-drop, length-take-le}
use Rattle.std.proofs.lemmas.List.Elements.{All-nil, All-cons, All-append, All-drop}
use Rattle.hash_rounds.specs.Blocks.{spooky_blocks}
use Rattle.hash_words.specs.Words.{AreWords}
use Rattle.hash_rounds.proofs.BlockLemmas.{spooky_blocks-append, spooky_blocks_short, spooky_blocks-take, spooky_blocks-words}
use Rattle.hash_laws.specs.Text.{IsText}
use Rattle.hash_laws.specs.TextLaws.{IsByte}
use Rattle.hash_jenkins.specs.Spooky.{Position, Short, Long, position, after, mixed, tail, long_start, hash, hash_v1, spooky, spooky_v1}
use Rattle.hash_jenkins.specs.SpookyStanding.{IsPosition, SpookyStandsAt, spooky_from, spooky_v1_from}

abbrev IsWord : ℕ → Type 0
IsWord n = n < 2 ^ 64

pub tail-append : (a b : List ℕ) → length a % 96 ≡ 0 → tail (a ++ b) ≡ tail b
unfolding tail
tail-append a b e =
    let at : length (a ++ b) / 96 * 96 ≡ length a + length b / 96 * 96 = omega (arith, length-append a b) in
    rw (at, ← drop-drop (length b / 96 * 96) (length a) (a ++ b), drop_at a b (length a) refl) refl

-- a text goes on after its whole blocks as after none
whole_then : (t p : List ℕ) → take (length t / 96 * 96) t ++ (tail t ++ p) ≡ t ++ p
unfolding tail
whole_then t p =
    sym (append_assoc (take (length t / 96 * 96) t) (drop (length t / 96 * 96) t) p)
    ∙ ap (λ (x : List ℕ). x ++ p) (take-append-drop (length t / 96 * 96) t)

-- whole blocks first, and then the rest
pub mixed-append : (s a b : List ℕ) → length a % 96 ≡ 0 → mixed s (a ++ b) ≡ mixed (spooky_blocks s a) b
mixed-append s a b e = rw (spooky_blocks-append s a b e, tail-append a b e) refl

-- blocks may be mixed in at any moment
mixed_on : (s t p : List ℕ) → mixed (spooky_blocks s t) (tail t ++ p) ≡ mixed s (t ++ p)
mixed_on s t p =
    let whole : length (take (length t / 96 * 96) t) ≡ length t / 96 * 96 = length-take-le (length t / 96 * 96) t (omega arith) in
    let cut = mixed-append s (take (length t / 96 * 96) t) (tail t ++ p) (omega arith) in
    sym (rw (whole_then t p, spooky_blocks-take s t (length t / 96 * 96) refl) at cut)

-- a text of no whole block is a tail
pub mixed_short : (s t : List ℕ) → length t < 96 → mixed s t ≡ Long s t
unfolding tail
mixed_short s t h =
    let none : length t / 96 * 96 ≡ 0 = omega arith in
    rw (none, spooky_blocks_short s t h) refl

-- a head that ends at a block's edge, and then the rest's whole blocks
pub mixed_through : (s head rest : List ℕ) (n : ℕ) → length head % 96 ≡ 0 → n ≡ length rest / 96 * 96
    → mixed s (head ++ rest) ≡ Long (spooky_blocks (spooky_blocks s head) (take n rest)) (drop n rest)
unfolding tail
mixed_through s head rest n edge count =
    rw (mixed-append s head rest edge, spooky_blocks-take (spooky_blocks s head) rest n count, count) refl

pub tail-lt : (t : List ℕ) → length (tail t) < 96
unfolding tail
tail-lt t = omega (arith, length-drop (length t / 96 * 96) t)

long_stays : (m p : List ℕ) → nat_lt (length m) 192 ≡ false → nat_lt (length (m ++ p)) 192 ≡ false
long_stays m p h = grind (arith, nat_tests, length-append m p)

module _ (seed1 seed2 : ℕ) (m : List ℕ) where
  after_by_length : (p : List ℕ) (b : Bool) → nat_lt (length m) 192 ≡ b → after (position seed1 seed2 m) p ≡ position seed1 seed2 (m ++ p)
  after_by_length p true short = rw short refl
  after_by_length p false long = rw (long, long_stays m p long) (mixed_on (long_start seed1 seed2) m p)

  -- a position does not depend on cuts
  pub after-position : (p : List ℕ) → after (position seed1 seed2 m) p ≡ position seed1 seed2 (m ++ p)
  after-position p = after_by_length p (nat_lt (length m) 192) refl

  hash_by_length : (b : Bool) → nat_lt (length m) 192 ≡ b → hash (position seed1 seed2 m) ≡ spooky seed1 seed2 m
  hash_by_length true short = rw short refl
  hash_by_length false long = rw long refl

  pub hash-position : hash (position seed1 seed2 m) ≡ spooky seed1 seed2 m
  hash-position = hash_by_length (nat_lt (length m) 192) refl

  hash_v1_by_length : (b : Bool) → nat_lt (length m) 192 ≡ b → hash_v1 (position seed1 seed2 m) ≡ spooky_v1 seed1 seed2 m
  hash_v1_by_length true short = rw short refl
  hash_v1_by_length false long = rw long refl

  pub hash_v1-position : hash_v1 (position seed1 seed2 m) ≡ spooky_v1 seed1 seed2 m
  hash_v1-position = hash_v1_by_length (nat_lt (length m) 192) refl

-- a text's blocks lead from twelve words to twelve words
IsPosition-mixed : (words t : List ℕ) → length words ≡ 12 → AreWords 64 words → IsText t → IsPosition (mixed words t)
unfolding tail
IsPosition-mixed words t twelve words_in bytes =
    let kept = spooky_blocks-words words t twelve words_in in
    record {
      twelve = kept.0;
      words_in = kept.1;
      is_text = All-drop IsByte (length t / 96 * 96) t bytes;
      below_block = tail-lt t;
    }

module _ (seed1 seed2 : ℕ) (seed1_in : seed1 < 2 ^ 64) (seed2_in : seed2 < 2 ^ 64) where
  abbrev three : List ℕ
  three = seed1 ∷ seed2 ∷ 0xdeadbeefdeadbeef ∷ []

  three_in : AreWords 64 three
  three_in =
      All-append IsWord (seed1 ∷ seed2 ∷ []) (0xdeadbeefdeadbeef ∷ [])
      (All-cons IsWord seed1 (seed2 ∷ []) seed1_in (All-cons IsWord seed2 [] seed2_in (All-nil IsWord)))
      (All-cons IsWord 0xdeadbeefdeadbeef [] (lit< tt) (All-nil IsWord))

  pub long_start-words : AreWords 64 (long_start seed1 seed2)
  long_start-words =
      let six = All-append IsWord three three three_in three_in in
      All-append IsWord (three ++ three) (three ++ three) six six

  position_by_length : (m : List ℕ) (b : Bool) → nat_lt (length m) 192 ≡ b → IsText m → IsPosition (position seed1 seed2 m)
  position_by_length m true short bytes = rw short (record {
    seed1_in = seed1_in;
    seed2_in = seed2_in;
    is_text = bytes;
    below_long = grind (arith, nat_tests);
  })
  position_by_length m false long bytes = rw long (IsPosition-mixed (long_start seed1 seed2) m refl long_start-words bytes)

  -- the position of a text under two seeds of 64 bits
  pub IsPosition-position : (m : List ℕ) → IsText m → IsPosition (position seed1 seed2 m)
  IsPosition-position m bytes = position_by_length m (nat_lt (length m) 192) refl bytes

-- the position of no bytes under the seeds 0 and 0
pub IsPosition-fresh : IsPosition (position 0 0 [])
IsPosition-fresh = IsPosition-position 0 0 (lit< tt) (lit< tt) [] (All-nil IsByte)

-- a piece leads from positions to positions
pub IsPosition-after : (at : Position) (p : List ℕ) → IsPosition at → IsText p → IsPosition (after at p)
IsPosition-after (Short seed1 seed2 text) p known bytes =
    IsPosition-position seed1 seed2 known.seed1_in known.seed2_in (text ++ p) (All-append IsByte text p known.is_text bytes)
IsPosition-after (Long words t) p known bytes =
    IsPosition-mixed words (t ++ p) known.twelve known.words_in (All-append IsByte t p known.is_text bytes)

-- no bytes change nothing
pub after-nil : (at : Position) → IsPosition at → after at [] ≡ at
after-nil (Short seed1 seed2 text) known =
    let few = known.below_long in
    let short : nat_lt (length text) 192 ≡ true = grind (arith, nat_tests) in
    rw (append-nil text, short) refl
after-nil (Long words t) known = rw (append-nil t) (mixed_short words t known.below_block)

-- two pieces are one
pub after-append : (at : Position) (p q : List ℕ) → IsPosition at → IsText p → IsText q → after at (p ++ q) ≡ after (after at p) q
after-append (Short seed1 seed2 text) p q known one two =
    rw (after-position seed1 seed2 (text ++ p) q, append_assoc text p q) refl
after-append (Long words t) p q known one two =
    sym (rw (append_assoc t p q) at (mixed_on words (t ++ p) q))

-- two seeds, before any byte
pub stands_at_seeds : (at : Position) (seed1 seed2 : ℕ) → seed1 < 2 ^ 64 → seed2 < 2 ^ 64 → at ≡ position seed1 seed2 []
    → SpookyStandsAt at (seed1 ∷ seed2 ∷ []) []
stands_at_seeds at seed1 seed2 in1 in2 there = record {
  seed1 = seed1;
  seed2 = seed2;
  only = refl;
  seed1_in = in1;
  seed2_in = in2;
  is_text = All-nil IsByte;
  there = there;
}

-- a piece extends the text
pub stands_after : (at to : Position) (from text piece : List ℕ) → IsText piece → to ≡ after at piece → SpookyStandsAt at from text
    → SpookyStandsAt to from (text ++ piece)
stands_after at to from text piece bytes led stood = record {
  seed1 = stood.seed1;
  seed2 = stood.seed2;
  only = stood.only;
  seed1_in = stood.seed1_in;
  seed2_in = stood.seed2_in;
  is_text = All-append IsByte text piece stood.is_text bytes;
  there = led ∙ ap (λ (a : Position). after a piece) stood.there ∙ after-position stood.seed1 stood.seed2 text piece;
}

-- the answer is that of the text
pub answer_where_stands : (at : Position) (from text : List ℕ) → SpookyStandsAt at from text → (hash at).0 ≡ spooky_from from text
answer_where_stands at from text stood =
    ap (λ (a : Position). (hash a).0) stood.there ∙ ap (λ (r : ℕ × ℕ). r.0) (hash-position stood.seed1 stood.seed2 text)
    ∙ ap (λ (seeds : List ℕ). spooky_from seeds text) (sym stood.only)

-- what stood at a text's position stands, after a piece, at that of the two joined
pub after_from : (at to : Position) (piece : List ℕ) → to ≡ after at piece → (seed1 seed2 : ℕ) (text : List ℕ)
    → at ≡ position seed1 seed2 text → to ≡ position seed1 seed2 (text ++ piece)
after_from at to piece led seed1 seed2 text here = led ∙ ap (λ (a : Position). after a piece) here ∙ after-position seed1 seed2 text piece

-- the default start
pub hash_from_seeds : (text : List ℕ) → IsText text → (hash (after (position 0 0 []) text)).0 ≡ spooky_from (0 ∷ 0 ∷ []) text
hash_from_seeds text bytes = ap (λ (r : ℕ × ℕ). r.0) (hash-position 0 0 text)

-- the same by version 1
pub answer_v1_where_stands : (at : Position) (from text : List ℕ) → SpookyStandsAt at from text → (hash_v1 at).0 ≡ spooky_v1_from from text
answer_v1_where_stands at from text stood =
    ap (λ (a : Position). (hash_v1 a).0) stood.there ∙ ap (λ (r : ℕ × ℕ). r.0) (hash_v1-position stood.seed1 stood.seed2 text)
    ∙ ap (λ (seeds : List ℕ). spooky_v1_from seeds text) (sym stood.only)

pub hash_v1_from_seeds : (text : List ℕ) → spooky_v1_from (0 ∷ 0 ∷ []) text ≡ (hash_v1 (after (position 0 0 []) text)).0
hash_v1_from_seeds text = sym (ap (λ (r : ℕ × ℕ). r.0) (hash_v1-position 0 0 text))
