-- What a hasher's parts come to by more bytes: those of a short text that they leave one, and where they lead.
use Rattle.hash_jenkins.proofs.Common.{◌≡◌, ℕ, ◌+◌, ◌-◌, ◌<◌, ◌≤◌, ◌++◌, ◌∙◌, List, length, take, replicate, refl, sym, ap, arith, length-append, ap₂, append_assoc, take_at, drop_at, drop-drop, drop-replicate, length-take-le, zero_filled, put_at, Position, after, IsPosition, IsPosition-after, take-put_at}
use Rattle.hash_laws.specs.Text.{IsText}
use Rattle.hash_jenkins.specs.SpookyParts.{position_of, IsSettled}
use Rattle.hash_jenkins.specs.declared.spooky_parts.SpookyParts.{SpookyParts}

-- the text and zeros, with a piece put behind the text
put-zero_filled : (text piece : List ℕ) (n : ℕ) → length text + length piece ≤ n
    → put_at (length text) piece (zero_filled n text) ≡ zero_filled n (text ++ piece)
put-zero_filled text piece n fits =
    let zeros : List ℕ = replicate (n - length text) 0 in
    let count : n - length text - length piece ≡ n - length (text ++ piece) = omega (arith, length-append text piece) in
    rw (take_at text zeros (length text) refl, ← drop-drop (length piece) (length text) (text ++ zeros))
    (rw (drop_at text zeros (length text) refl, drop-replicate {X = ℕ} (length piece) (n - length text) 0, count)
    (sym (append_assoc text piece (replicate (n - length (text ++ piece)) 0))))

-- parts that keep a piece too, in the buffer b and with the length n
abbrev kept_too : SpookyParts → List ℕ → List ℕ → ℕ → SpookyParts
kept_too s b p n = record { buffer = b; words = s.words; kept = s.kept + length p; length = n }

-- where a piece leads settled parts is in range
pub in_range_after : (s : SpookyParts) (to : Position) (p : List ℕ) → IsSettled s → to ≡ after (position_of s) p → IsText p → IsPosition to
in_range_after s to p settled led bytes = rw led (IsPosition-after (position_of s) p settled.in_range bytes)

module _ (s : SpookyParts) (b p : List ℕ) (n : ℕ) (settled : IsSettled s) (whole : length s.buffer ≡ 192) (few : n < 192)
    (count : n ≡ s.length + length p) (put : b ≡ put_at s.kept p s.buffer) where
  kept_all : s.kept ≡ s.length
  kept_all = settled.fits.all_kept (omega arith)

  text_then : take (s.kept + length p) b ≡ take s.kept s.buffer ++ p
  text_then = rw put (take-put_at s.kept p s.buffer (s.kept + length p) refl (omega (arith, kept_all)))

  ends : s.kept ≡ length (take s.kept s.buffer)
  ends = sym (length-take-le s.kept s.buffer (omega (arith, kept_all)))

  pub settled_still : IsPosition (position_of (kept_too s b p n)) → IsSettled (kept_too s b p n)
  settled_still known = record {
    fits = record { all_kept = λ h. omega (arith, kept_all); part_kept = λ h. absurd (omega arith) };
    in_range = known;
    unmixed = λ h. settled.unmixed (omega arith);
    filled = λ h.
        put ∙ ap₂ (λ (k : ℕ) (w : List ℕ). put_at k p w) ends (settled.filled (omega arith))
        ∙ put-zero_filled (take s.kept s.buffer) p 192 (omega (arith, ends, kept_all)) ∙ ap (zero_filled 192) (sym text_then);
  }

-- parts of a long text
pub settled_long : (s : SpookyParts) → 192 ≤ s.length → s.kept < 96 → IsPosition (position_of s) → IsSettled s
settled_long s long part known = record {
  fits = record { all_kept = λ h. absurd (omega arith); part_kept = λ h. part };
  in_range = known;
  unmixed = λ h. absurd (omega arith);
  filled = λ h. absurd (omega arith);
}
