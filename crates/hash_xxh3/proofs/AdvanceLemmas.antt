-- Where more bytes lead a longer text.
use Rattle.hash_xxh3.proofs.Common.{◌≡◌, ℕ, ◌+◌, ◌-◌, ◌*◌, ◌/◌, ◌%◌, ◌^◌, ◌<◌, ◌≤◌, nat_lt, true, false, List, ◌++◌, length, take, drop, sym, ap, ◌∙◌, arith, length-append, ap₂, nat_tests, drop_at, drop-drop, drop-append-le, take-take, secret_of, start_lanes, stripes_in, put_at, Position, Short, Long, more_stripes, advanced, after, IsPosition, IsPosition-after, advanced_on, stripes_in-add, stripes_in-prefix, Lanes, take-put_at, length-drop, length-take-le, take-append-drop}
use Rattle.hash_laws.specs.Text.{IsText}
use Rattle.hash_xxh3.specs.Parts.{position_of, IsLongParts, IsSettled}
use Rattle.hash_xxh3.specs.declared.parts.Xxh3Parts.{Xxh3Parts}

-- a stripe and what is behind it, where all before the last stripe is in what is behind it
pub kept_behind : (stripe rest : List ℕ) (whole k : ℕ) → length stripe ≡ 64 → 64 ≤ whole → whole ≡ k * 64
    → drop (whole - 64) rest ≡ drop (64 * k) (stripe ++ rest)
kept_behind stripe rest whole k long some e =
    let place : 64 + (whole - 64) ≡ 64 * k = omega arith in
    ap (drop (whole - 64)) (sym (drop_at stripe rest 64 long)) ∙ drop-drop (whole - 64) 64 (stripe ++ rest) ∙ ap (λ n. drop n (stripe ++ rest)) place

-- whole stripes, of which the first is in the words, and bytes behind them
pub through : (seed len m k : ℕ) (lanes : Lanes) (full stripe rest : List ℕ) → length full ≡ 64 + 64 * m → stripe ≡ drop (64 * m) full
    → k ≡ (length rest - 1) / 64 → 1 ≤ length rest
    → Long seed (stripes_in (secret_of seed) (stripes_in (secret_of seed) lanes m (drop 64 full)) k rest) len (drop (64 * k) (stripe ++ rest))
    ≡ advanced seed lanes len (full ++ rest)
unfolding advanced
through seed len m k lanes full stripe rest whole is count some =
    let secret = secret_of seed in
    let t : List ℕ = full ++ rest in
    let size : length (drop 64 full) ≡ 64 * m = omega (arith, length-drop 64 full) in
    let all : more_stripes (length t) ≡ m + k = omega (arith, length-append full rest) in
    let behind : drop 64 t ≡ drop 64 full ++ rest = drop-append-le 64 full rest (omega arith) in
    let first = stripes_in-prefix secret lanes m (drop 64 full) rest (omega arith) in
    let next : drop (64 * m) (drop 64 full ++ rest) ≡ rest = drop_at (drop 64 full) rest (64 * m) size in
    let led = stripes_in-add secret lanes m k (drop 64 full ++ rest) ∙ ap₂ (λ (l : Lanes) (x : List ℕ). stripes_in secret l k x) first next in
    let last : stripe ++ rest ≡ drop (64 * m) t = ap (λ (x : List ℕ). x ++ rest) is ∙ sym (drop-append-le (64 * m) full rest (omega arith)) in
    let places : 64 * m + 64 * k ≡ 64 * (m + k) = omega arith in
    let left = ap (drop (64 * k)) last ∙ drop-drop (64 * k) (64 * m) t ∙ ap (λ n. drop n t) places in
    rw (all, behind) (ap₂ (λ (l : Lanes) (x : List ℕ). Long seed l len x) (sym led) left)

-- the first stripe of a text, of which a longer part lies at the front of a buffer
pub begun : (secret : List ℕ) (end : ℕ) (buffer rest : List ℕ) → 64 ≤ end → end ≤ length buffer
    → stripes_in secret start_lanes 1 (take 64 buffer) ≡ stripes_in secret start_lanes 1 (take end buffer ++ rest)
begun secret end buffer rest some few =
    let t : List ℕ = take end buffer in
    let size : length t ≡ end = length-take-le end buffer few in
    let front : length (take 64 t) ≡ 64 = length-take-le 64 t (omega arith) in
    ap (stripes_in secret start_lanes 1) (sym (take-take 64 end buffer (omega arith)))
    ∙ sym (stripes_in-prefix secret start_lanes 1 (take 64 t) (drop 64 t) (omega arith))
    ∙ ap (stripes_in secret start_lanes 1) (take-append-drop 64 t)
    ∙ sym (stripes_in-prefix secret start_lanes 1 t rest (omega arith))

-- ---- parts

pub in_range_after : (s : Xxh3Parts) (to : Position) (p : List ℕ) → IsSettled s → to ≡ after (position_of s) p → IsText p → IsPosition to
in_range_after s to p settled led bytes = rw led (IsPosition-after (position_of s) p settled.in_range bytes)

pub settled_long : (s : Xxh3Parts) → s.long ≡ true → IsLongParts s → IsPosition (position_of s) → IsSettled s
settled_long s long parts known = record {
  in_range = known;
  short = λ h. (cc);
  long = λ h. parts;
}

pub settled_short : (s : Xxh3Parts) → s.long ≡ false → s.kept < 241 → IsPosition (position_of s) → IsSettled s
settled_short s short few known = record {
  in_range = known;
  short = λ h. few;
  long = λ h. (cc);
}

-- where the bytes lead that a longer text is followed by
pub on : (seed : ℕ) (lanes : Lanes) (len kept : ℕ) (buffer bytes : List ℕ) (to : Position) → 65 ≤ kept → kept ≤ length buffer
    → to ≡ advanced seed lanes ((len + length bytes) % 2 ^ 64) (take kept buffer ++ bytes)
    → to ≡ after (advanced seed lanes len (take kept buffer)) bytes
on seed lanes len kept buffer bytes to some fits led =
    led ∙ sym (advanced_on seed lanes len (take kept buffer) bytes (omega (arith, length-take-le kept buffer fits)))

-- the bytes that leave a short text one
pub short_led : (seed kept end : ℕ) (buffer after_put bytes : List ℕ) → end ≡ kept + length bytes → after_put ≡ put_at kept bytes buffer
    → kept ≤ length buffer → end < 241 → Short seed (take end after_put) ≡ after (Short seed (take kept buffer)) bytes
short_led seed kept end buffer after_put bytes size put fits few =
    let still : nat_lt (length (take kept buffer ++ bytes)) 241 ≡ true =
    grind (arith, nat_tests, length-append (take kept buffer) bytes, length-take-le kept buffer fits) in
    rw still (ap (Short seed) (ap (take end) put ∙ take-put_at kept bytes buffer end size fits))
