-- Texts by their places, and how often each came.
use Rattle.dedup_core.proofs.Common.{◌≡◌, ℕ, ◌+◌, ◌-◌, ◌^◌, ◌<◌, true, false, cond, List, [], ◌∷◌, ◌++◌, length, get_or, slice_index_or, set, map, ap, sym, ◌∙◌, arith, count_by, bytes_eq, strip_last, common_steps, elements, same_number_lists, map-append, length-map, get_or-map, get_or_default, sum_by_push, EachOnce, StandsAt, has, with_text, has_all, has_there, once_with, min, times_of, Tallies, nat_tests}
use Rattle.std.proofs.lemmas.Slice.Eq.{bytes_eq-Decides}
use Rattle.dedup_core.proofs.SeenLemmas.{firsts_more}

-- the count that is read at the place of a text that was there
pub counted_place : (old new : List (List ℕ)) (text times : List ℕ) (place count : ℕ) → has old text ≡ true → new ≡ with_text old text
    → StandsAt new text place → length old ≡ length times → count ≡ slice_index_or times place count
    → (place < length times) × (count ≡ get_or times place 0)
counted_place old new text times place count there is stands many read = grind (arith, nat_tests, common_steps, get_or_default)

-- how often a text comes that is not there
none_comes : (texts : List (List ℕ)) (text : List ℕ) → has texts text ≡ false → count_by (bytes_eq text) texts ≡ 0
none_comes [] text absent = grind (arith, common_steps)
none_comes (first ∷ texts) text absent = grind (arith, common_steps, none_comes texts text)

-- one more, up to the greatest number of 64 bits
abbrev pub one_more : ℕ → ℕ
one_more n = min (n + 1) (2 ^ 64 - 1)

-- where the text at one place came once more, and no other did
again_by : (before after : List ℕ → ℕ) (more : ℕ → ℕ) (seen : List (List ℕ)) (times text : List ℕ) (place : ℕ)
    → length seen ≡ length times → ((k : ℕ) → k < length seen → get_or times k 0 ≡ before (get_or seen k []))
    → ((other : List ℕ) → bytes_eq other text ≡ false → after other ≡ before other) → after text ≡ more (before text)
    → EachOnce seen → StandsAt seen text place → set times place (more (get_or times place 0)) ≡ map after seen
again_by before after more seen times text place many counts others same once stands =
    same_number_lists _ _ (grind (arith, common_steps, many)) (λ k below. grind (
      arith,
      elements,
      many,
      counts k,
      others (get_or seen k []),
      same,
      stands,
      once k place,
      bytes_eq-Decides (get_or seen k []) text,
    ))

bytes_eq-same : (text : List ℕ) → bytes_eq text text ≡ true
bytes_eq-same text = grind (arith, bytes_eq-Decides text text)

module _ (eol : ℕ) where
  -- with a line more
  times_more : (ls : List (List ℕ)) (line text : List ℕ)
      → times_of eol (ls ++ line ∷ []) text ≡ min (times_of eol ls text + cond (bytes_eq text (strip_last eol line)) 1 0) (2 ^ 64 - 1)
  times_more ls line text = grind (arith, nat_tests, common_steps, sum_by_push, map-append)

  times_other : (ls : List (List ℕ)) (line text : List ℕ) → bytes_eq text (strip_last eol line) ≡ false
      → times_of eol (ls ++ line ∷ []) text ≡ times_of eol ls text
  times_other ls line text other = times_more ls line text ∙ rw other (omega arith)

  times_again : (ls : List (List ℕ)) (line : List ℕ)
      → times_of eol (ls ++ line ∷ []) (strip_last eol line) ≡ one_more (times_of eol ls (strip_last eol line))
  times_again ls line = grind (arith, nat_tests, common_steps, times_more, bytes_eq-same)

  module _ (ls seen : List (List ℕ)) (times : List ℕ) (now : Tallies eol ls seen times) where
    pub as_many : length seen ≡ length times
    as_many = sym (ap length now.counts ∙ length-map seen (times_of eol ls))

    count_at : (place : ℕ) → place < length seen → get_or times place 0 ≡ times_of eol ls (get_or seen place [])
    count_at place below = rw now.counts (get_or-map (times_of eol ls) seen place [] 0 below)

    -- a text that is not there is that of no line
    none_so_far : (text : List ℕ) → has seen text ≡ false → times_of eol ls text ≡ 0
    none_so_far text absent =
        let texts = map (strip_last eol) ls in
        ap (λ n. min n (2 ^ 64 - 1)) (none_comes texts text (sym (ap (λ s. has s text) now.places ∙ has_all [] texts text) ∙ absent))

    pub tallies_new : (line : List ℕ) (more : List (List ℕ)) → has seen (strip_last eol line) ≡ false
        → more ≡ with_text seen (strip_last eol line) → Tallies eol (ls ++ line ∷ []) more (times ++ 1 ∷ [])
    tallies_new line more absent is =
        let text = strip_last eol line in
        let longer : more ≡ seen ++ text ∷ [] = rw absent at is in
        let after = times_of eol (ls ++ line ∷ []) in
        let kept : times ≡ map after seen = same_number_lists times (map after seen) (grind (arith, common_steps, as_many))
        (λ k below. grind (
          arith,
          elements,
          as_many,
          count_at k,
          times_more ls line (get_or seen k []),
          absent,
          has_there seen text k,
          bytes_eq-Decides (get_or seen k []) text,
        )) in
        let one : after text ≡ 1 = grind (arith, times_more ls line text, none_so_far text absent, bytes_eq-Decides text text) in
        grind (arith, nat_tests, common_steps, firsts_more, map-append)

    pub tallies_again : (line : List ℕ) (more : List (List ℕ)) (place : ℕ) → has seen (strip_last eol line) ≡ true
        → more ≡ with_text seen (strip_last eol line)
        → StandsAt more (strip_last eol line) place → Tallies eol (ls ++ line ∷ []) more (set times place (one_more (get_or times place 0)))
    tallies_again line more place there is stands =
        let text = strip_last eol line in
        let same : more ≡ seen = rw there at is in
        let once : EachOnce seen = rw now.places (once_with [] (map (strip_last eol) ls) (λ i k below. absurd (omega arith))) in
        record {
          places = rw (firsts_more eol ls line, ← now.places) is;
          counts = rw same (again_by (times_of eol ls) (times_of eol (ls ++ line ∷ [])) one_more seen times text place as_many
              count_at (λ other. times_other ls line other) (times_again ls line) once (rw same at stands));
        }
