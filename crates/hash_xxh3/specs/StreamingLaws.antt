-- Laws of positions: a position depends on the whole text alone, not on its cuts.
use Rattle.std.proofs.Common.{◌≡◌, ℕ, ◌+◌, ◌-◌, ◌*◌, ◌/◌, ◌%◌, ◌<◌, ◌≤◌, ◌^◌, nat_lt, Bool, true, false, List, [], ◌∷◌, ◌++◌, length, drop, fold, refl, sym, ap, ◌∙◌, arith, lit<, length-append, length-drop}
use Rattle.std.specs.List.{concat}
use Rattle.std.proofs.Math.Path.{ap₂}
use Rattle.std.proofs.Math.Nat.{mod-add-mod}
use Rattle.std.proofs.lemmas.Nat.{mod_below, mul-mod_first}
use Rattle.std.proofs.lemmas.Bool.Decides.{nat_tests}
use Rattle.std.proofs.lemmas.List.{append_assoc, append-nil, drop-append-le, drop-drop}
use Rattle.std.proofs.lemmas.List.Elements.{All-nil, All-append, All-drop}
use Rattle.hash_laws.specs.Text.{IsText}
use Rattle.hash_laws.specs.TextLaws.{IsByte}
use Rattle.hash_xxh3.specs.Long.{IsLanes, secret_of, start_lanes, stripes_in, accumulate, merge, end_words, end_long, long_under, of_long}
use Rattle.hash_xxh3.specs.Streaming.{Position, Short, Long, more_stripes, kept_words, advanced, long_position, position, after, hash, IsPosition, Xxh3StandsAt, xxh3_from}
use Rattle.hash_xxh3.specs.Xxh3.{xxh3_64_of}
use Rattle.hash_xxh3.specs.declared.long.Lanes.{Lanes}
use Rattle.hash_xxh3.specs.LaneLaws.{start_in, stripes-kept}
use Rattle.hash_xxh3.specs.StripeLaws.{stripes_in-add, stripes_in-prefix}

-- ---- longer texts

-- where a text leads, more bytes lead on
pub advanced_on : (seed : ℕ) (lanes : Lanes) (len : ℕ) (t p : List ℕ) → 65 ≤ length t
    → after (advanced seed lanes len t) p ≡ advanced seed lanes ((len + length p) % 2 ^ 64) (t ++ p)
unfolding advanced
advanced_on seed lanes len t p some =
    let a = more_stripes (length t) in
    let kept : List ℕ = drop (64 * a) t in
    let b = more_stripes (length (kept ++ p)) in
    let all : more_stripes (length (t ++ p)) ≡ a + b =
    omega (arith, length-append t p, length-append kept p, length-drop (64 * a) t) in
    let behind : kept ++ p ≡ drop (64 * a) (t ++ p) = sym (drop-append-le (64 * a) t p (omega arith)) in
    let places : 64 + 64 * a ≡ 64 * a + 64 = omega arith in
    let next : drop 64 (kept ++ p) ≡ drop (64 * a) (drop 64 (t ++ p)) =
    ap (drop 64) behind ∙ drop-drop 64 (64 * a) (t ++ p) ∙ ap (λ n. drop n (t ++ p)) (sym places) ∙ sym (drop-drop (64 * a) 64 (t ++ p)) in
    let first : stripes_in (secret_of seed) lanes a (drop 64 t) ≡ stripes_in (secret_of seed) lanes a (drop 64 (t ++ p)) =
    sym (stripes_in-prefix (secret_of seed) lanes a (drop 64 t) p (omega (arith, length-drop 64 t)))
    ∙ ap (stripes_in (secret_of seed) lanes a) (sym (drop-append-le 64 t p (omega arith))) in
    let led : stripes_in (secret_of seed) (stripes_in (secret_of seed) lanes a (drop 64 t)) b (drop 64 (kept ++ p))
    ≡ stripes_in (secret_of seed) lanes (a + b) (drop 64 (t ++ p)) =
    ap₂ (λ (l : Lanes) (x : List ℕ). stripes_in (secret_of seed) l b x) first next
    ∙ sym (stripes_in-add (secret_of seed) lanes a b (drop 64 (t ++ p))) in
    let far : 64 * b + 64 * a ≡ 64 * (a + b) = omega arith in
    let left : drop (64 * b) (kept ++ p) ≡ drop (64 * (a + b)) (t ++ p) =
    ap (drop (64 * b)) behind ∙ drop-drop (64 * b) (64 * a) (t ++ p) ∙ ap (λ n. drop n (t ++ p)) (omega arith) in
    rw all (ap₂ (λ (l : Lanes) (k : List ℕ). Long seed l ((len + length p) % 2 ^ 64) k) led left)

-- fewer than two stripes and a byte lead nowhere
pub advanced_none : (seed : ℕ) (lanes : Lanes) (len : ℕ) (t : List ℕ) → length t ≤ 128 → advanced seed lanes len t ≡ Long seed lanes len t
unfolding advanced stripes_in
advanced_none seed lanes len t few =
    let none : more_stripes (length t) ≡ 0 = omega arith in
    rw none refl

-- the length counts modulo 2 ^ 64
length_counts : (secret words : List ℕ) (n : ℕ) → end_long secret words (n % 2 ^ 64) ≡ end_long secret words n
unfolding end_long
length_counts secret words n = ap (merge words secret 11) (mul-mod_first n 0x9e3779b185ebca87 (2 ^ 64))

-- where a text stands, and its hash
module _ (seed : ℕ) (m : List ℕ) where
  after_by_length : (p : List ℕ) (b : Bool) → nat_lt (length m) 241 ≡ b → after (position seed m) p ≡ position seed (m ++ p)
  after_by_length p true short = rw short refl
  after_by_length p false long =
      let above : 241 ≤ length m = grind (arith, nat_tests) in
      let still : nat_lt (length (m ++ p)) 241 ≡ false = grind (arith, nat_tests, length-append m p) in
      let total : (length m % 2 ^ 64 + length p) % 2 ^ 64 ≡ length (m ++ p) % 2 ^ 64 =
      mod-add-mod (length m) (2 ^ 64) (length p) ∙ ap (λ n. n % 2 ^ 64) (sym (length-append m p)) in
      let first : stripes_in (secret_of seed) start_lanes 1 m ≡ stripes_in (secret_of seed) start_lanes 1 (m ++ p) =
      sym (stripes_in-prefix (secret_of seed) start_lanes 1 m p (omega arith)) in
      rw (long, still) (advanced_on seed (stripes_in (secret_of seed) start_lanes 1 m) (length m % 2 ^ 64) m p (omega arith)
      ∙ ap₂ (λ (l : Lanes) (n : ℕ). advanced seed l n (m ++ p)) first total)

  -- a position does not depend on cuts
  pub after-position : (p : List ℕ) → after (position seed m) p ≡ position seed (m ++ p)
  after-position p = after_by_length p (nat_lt (length m) 241) refl

  -- the words that a longer text ends in are those at its position
  pub end_words-position : 241 ≤ length m
      → kept_words (secret_of seed) (stripes_in (secret_of seed) start_lanes 1 m) m ≡ end_words (secret_of seed) m
  end_words-position above =
      let n = length m in
      let a = more_stripes n in
      let secret = secret_of seed in
      let count : 1 + a ≡ (n - 1) / 64 = omega arith in
      let words = sym (stripes_in-add secret start_lanes 1 a m) ∙ ap (λ k. stripes_in secret start_lanes k m) count in
      let place : length (drop (64 * a) m) - 64 + 64 * a ≡ n - 64 = omega (arith, length-drop (64 * a) m) in
      let last = drop-drop (length (drop (64 * a) m) - 64) (64 * a) m ∙ ap (λ k. drop k m) (omega (arith, place)) in
      ap₂ (λ (l : Lanes) (x : List ℕ). accumulate l.words x secret 121) words last

  hash_long : 241 ≤ length m → hash (long_position seed m) ≡ of_long seed m
  unfolding advanced long_under
  hash_long above =
      let n = length m in
      length_counts (secret_of seed) _ n ∙ ap (λ (w : List ℕ). end_long (secret_of seed) w n) (end_words-position above)

  hash_by_length : (b : Bool) → nat_lt (length m) 241 ≡ b → hash (position seed m) ≡ xxh3_64_of seed m
  unfolding xxh3_64_of
  hash_by_length true short = rw short refl
  hash_by_length false long = rw long (hash_long (grind (arith, nat_tests)))

  pub hash-position : hash (position seed m) ≡ xxh3_64_of seed m
  hash-position = hash_by_length (nat_lt (length m) 241) refl

-- ---- positions in range

pub IsLong-advanced : (seed : ℕ) (lanes : Lanes) (len : ℕ) (t : List ℕ) → IsLanes lanes → seed < 2 ^ 64 → len < 2 ^ 64 → IsText t → 65 ≤ length t
    → IsPosition (advanced seed lanes len t)
unfolding advanced
IsLong-advanced seed lanes len t lanes_in seed_in len_in bytes some =
    let size = length-drop (64 * more_stripes (length t)) t in
    record {
      lanes_in = stripes-kept (secret_of seed) lanes (more_stripes (length t)) (drop 64 t) lanes_in;
      seed_in = seed_in;
      length_in = len_in;
      is_text = All-drop IsByte (64 * more_stripes (length t)) t bytes;
      some = omega (arith, size);
      few = omega (arith, size);
    }

module _ (seed : ℕ) (seed_in : seed < 2 ^ 64) where
  position_by_length : (m : List ℕ) (b : Bool) → nat_lt (length m) 241 ≡ b → IsText m → IsPosition (position seed m)
  position_by_length m true short bytes =
      rw short (record { seed_in = seed_in; is_text = bytes; few = grind (arith, nat_tests) })
  position_by_length m false long bytes =
      let above : 241 ≤ length m = grind (arith, nat_tests) in
      rw long (IsLong-advanced seed _ (length m % 2 ^ 64) m (stripes-kept (secret_of seed) start_lanes 1 m start_in) seed_in (mod_below (length m) (2 ^ 64) (lit< tt)) bytes (omega arith))

  -- the position of a text under a seed of 64 bits
  pub IsPosition-position : (m : List ℕ) → IsText m → IsPosition (position seed m)
  IsPosition-position m bytes = position_by_length m (nat_lt (length m) 241) refl bytes

-- the position of no bytes under the seed 0
pub IsPosition-fresh : IsPosition (position 0 [])
IsPosition-fresh = IsPosition-position 0 (lit< tt) [] (All-nil IsByte)

-- a piece leads from positions to positions
pub IsPosition-after : (at : Position) (p : List ℕ) → IsPosition at → IsText p → IsPosition (after at p)
IsPosition-after (Short seed text) p known bytes =
    IsPosition-position seed known.seed_in (text ++ p) (All-append IsByte text p known.is_text bytes)
IsPosition-after (Long seed lanes len kept) p known bytes =
    let some = known.some in
    IsLong-advanced seed lanes ((len + length p) % 2 ^ 64) (kept ++ p) known.lanes_in known.seed_in (mod_below _ (2 ^ 64) (lit< tt))
    (All-append IsByte kept p known.is_text bytes) (omega (arith, length-append kept p))

-- no bytes change nothing
pub after-nil : (at : Position) → IsPosition at → after at [] ≡ at
after-nil (Short seed text) known =
    let few = known.few in
    let short : nat_lt (length text) 241 ≡ true = grind (arith, nat_tests) in
    rw (append-nil text, short) refl
after-nil (Long seed lanes len kept) known =
    let few = known.few in
    let in_range = known.length_in in
    let same : (len + 0) % 2 ^ 64 ≡ len = omega arith in
    rw (append-nil kept, same) (advanced_none seed lanes len kept few)

-- two pieces are one
pub after-append : (at : Position) (p q : List ℕ) → IsPosition at → IsText p → IsText q → after at (p ++ q) ≡ after (after at p) q
after-append (Short seed text) p q known one two =
    sym (after-position seed (text ++ p) q ∙ ap (position seed) (append_assoc text p q))
after-append (Long seed lanes len kept) p q known one two =
    let some = known.some in
    let total : ((len + length p) % 2 ^ 64 + length q) % 2 ^ 64 ≡ (len + length (p ++ q)) % 2 ^ 64 =
    mod-add-mod (len + length p) (2 ^ 64) (length q) ∙ ap (λ n. n % 2 ^ 64) (omega (arith, length-append p q)) in
    sym (advanced_on seed lanes ((len + length p) % 2 ^ 64) (kept ++ p) q (omega (arith, length-append kept p))
    ∙ ap₂ (λ (n : ℕ) (x : List ℕ). advanced seed lanes n x) total (append_assoc kept p q))

-- ---- where a hasher stands

-- a seed, before any byte
pub stands_at_seed : (at : Position) (seed : ℕ) → seed < 2 ^ 64 → at ≡ position seed [] → Xxh3StandsAt at (seed ∷ []) []
stands_at_seed at seed seed_in there = record {
  seed = seed;
  only = refl;
  seed_in = seed_in;
  is_text = All-nil IsByte;
  there = there;
}

-- a piece extends the text
pub stands_after : (at to : Position) (from text piece : List ℕ) → IsText piece → to ≡ after at piece → Xxh3StandsAt at from text
    → Xxh3StandsAt to from (text ++ piece)
stands_after at to from text piece bytes led stood = record {
  seed = stood.seed;
  only = stood.only;
  seed_in = stood.seed_in;
  is_text = All-append IsByte text piece stood.is_text bytes;
  there = led ∙ ap (λ (a : Position). after a piece) stood.there ∙ after-position stood.seed text piece;
}

-- the answer is that of the text
pub answer_where_stands : (at : Position) (from text : List ℕ) → Xxh3StandsAt at from text → hash at ≡ xxh3_from from text
answer_where_stands at from text stood =
    ap hash stood.there ∙ hash-position stood.seed text ∙ ap (λ (seeds : List ℕ). xxh3_from seeds text) (sym stood.only)

-- what stood at a text's position stands, after a piece, at that of the two joined
pub after_from : (at to : Position) (piece : List ℕ) → to ≡ after at piece → (seed : ℕ) (text : List ℕ)
    → at ≡ position seed text → to ≡ position seed (text ++ piece)
after_from at to piece led seed text here = led ∙ ap (λ (a : Position). after a piece) here ∙ after-position seed text piece

-- the default start
pub hash_from_seed : (text : List ℕ) → IsText text → hash (after (position 0 []) text) ≡ xxh3_from (0 ∷ []) text
hash_from_seed text bytes = hash-position 0 text

pub hash_of_fresh : (text : List ℕ) → xxh3_64_of 0 text ≡ hash (after (position 0 []) text)
hash_of_fresh text = sym (hash-position 0 text)

pub hash_of_text : (at : Position) (h : ℕ) → h ≡ hash at → (seed : ℕ) (text : List ℕ) → at ≡ position seed text → h ≡ xxh3_64_of seed text
hash_of_text at h value seed text there = value ∙ ap hash there ∙ hash-position seed text

-- pieces lead from a text's position to that of the text and all of them
pub fold-position : (seed : ℕ) (text : List ℕ) (pieces : List (List ℕ))
    → fold after (position seed text) pieces ≡ position seed (text ++ concat pieces)
fold-position seed text [] = ap (position seed) (sym (append-nil text))
fold-position seed text (piece ∷ pieces) =
    ap (λ (a : Position). fold after a pieces) (after-position seed text piece) ∙ fold-position seed (text ++ piece) pieces
    ∙ ap (position seed) (append_assoc text piece (concat pieces))
