-- Where the chunks of a text end, written one after the other.
use Rattle.hash_cuts.proofs.Common.{◌≡◌, ℕ, ◌+◌, ◌<◌, ◌≤◌, ◌⊎◌, List, [], ◌∷◌, ◌++◌, length, take, drop, min, slice_set, sym, ap, ◌∙◌, arith, length-append, take-append_seam, drop-set-lt, take-append-drop, take_more_set, Cutting, HasSizes, chunk_ends, chunks, ends_from, first_cut, append_assoc, drop-drop, length-drop, length-set, length-take-le, nat_tests, common_steps}
use Rattle.hash_cuts.proofs.ChunkLemmas.{chunks-first, chunks-none, first_cut-le}

-- so many ends are written, those up to a place of the text, and what stood behind them stands there still
pub record AreEnds (cuts : Cutting) (text old new : List ℕ) (count place : ℕ) : Type 0 where
  pub written : chunk_ends cuts text ≡ take count new ++ ends_from place (chunks cuts (drop place text))
  pub kept : drop count new ≡ drop count old
  pub len : length new ≡ length old
  pub within : count ≤ length old
  pub inside : place ≤ length text

module _ (cuts : Cutting) (text old new : List ℕ) (count place : ℕ) (are : AreEnds cuts text old new count place) where
  module _ (sizes : HasSizes cuts) (n : ℕ) (cut : n ≡ first_cut cuts (drop place text)) (left : place < length text) (room : count < length new) where
    n_in : n ≤ length (drop place text)
    n_in = omega (arith, cut, first_cut-le cuts sizes (drop place text))

    first_end : ends_from place (chunks cuts (drop place text)) ≡ (place + n) ∷ ends_from (place + n) (chunks cuts (drop (place + n) text))
    unfolding ends_from
    first_end = grind (arith, nat_tests, common_steps, chunks-first, length-drop, length-take-le, n_in, drop-drop)

    pub one_end_more : AreEnds cuts text old (slice_set new count (place + n)) (count + 1) (place + n)
    one_end_more = record {
      written = are.written ∙ ap (λ (t : List ℕ). take count new ++ t) first_end
          ∙ sym (append_assoc (take count new) ((place + n) ∷ []) (ends_from (place + n) (chunks cuts (drop (place + n) text))))
          ∙ ap (λ (t : List ℕ). t ++ ends_from (place + n) (chunks cuts (drop (place + n) text))) (sym (take_more_set new count (place + n) room));
      kept = drop-set-lt (count + 1) new count (place + n) (omega arith) ∙ sym (drop-drop 1 count new) ∙ ap (drop 1) are.kept
          ∙ drop-drop 1 count old;
      len = length-set new count (place + n) ∙ are.len;
      within = omega (arith, room, are.len);
      inside = omega (arith, n_in, left, length-drop place text);
    }

  module _ (over : (length old ≤ count) ⊎ (length text ≤ place)) where
    size : length (take count new) ≡ count
    size = length-take-le count new (omega (arith, are.within, are.len))

    pub all_ends : count ≡ min (length old) (length (chunk_ends cuts text))
    unfolding ends_from
    all_ends = grind (arith, nat_tests, common_steps, length-append, size, chunks-none, length-drop)

    pub ends_written : new ≡ take count (chunk_ends cuts text) ++ drop count old
    ends_written = grind (arith, nat_tests, common_steps, size, take-append_seam, take-append-drop)
