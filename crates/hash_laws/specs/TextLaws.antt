-- Pieces of texts.
use Rattle.std.specs.Prelude.{◌/◌, ◌^◌, ◌≡◌, ◌+◌, ◌<◌, ◌∷◌, ◌++◌}
use Rattle.hash_laws.specs.Common.{ℕ, zero, suc, lit<, List, [], length, take, get_or, ap, sym, ◌∙◌, fold, drop, map, Fits, w8, rules, refl, flat_map, take_more, flat_map_more, at_drop_more, All-nil, All-cons, All-from_get_or, IsText}
use Rattle.std.proofs.Common.{append_assoc}
use Rattle.std.proofs.lemmas.Nat.{mod_below}
use Rattle.std.specs.Int.{Width, byte_at, byte_len, bytes_low_first, to_le_bytes, w16, w32, w64}
use Rattle.std.specs.Hash.{le_bytes}

-- one more piece
pub joined_more : {A : Type 0} (f : A → List ℕ) (text : List ℕ) (pieces : List A) (i : ℕ) (d : A) → i < length pieces
    → text ++ flat_map f (take (i + 1) pieces) ≡ (text ++ flat_map f (take i pieces)) ++ f (get_or pieces i d)
joined_more f text pieces i d below =
    ap (λ ps. text ++ flat_map f ps) (take_more pieces i d below)
    ∙ ap (λ t. text ++ t) (sym (flat_map_more f [] (take i pieces) (get_or pieces i d)))
    ∙ sym (append_assoc text (flat_map f (take i pieces)) (f (get_or pieces i d)))

abbrev pub IsByte : ℕ → Type 0
IsByte n = n < 256

-- one byte is a text
pub IsText-one : (byte : ℕ) → byte < 256 → IsText (byte ∷ [])
IsText-one byte below = All-cons IsByte byte [] below (All-nil IsByte)

-- the bytes of a number are a text
byte_at-lt : (i n : ℕ) → byte_at i n < 256
byte_at-lt zero n = mod_below n 256 (lit< tt)
byte_at-lt (suc i) n = mod_below (n / 256 ^ suc i) 256 (lit< tt)

low_bytes : (i k n : ℕ) → IsText (bytes_low_first i k n)
low_bytes i zero n = All-nil IsByte
low_bytes i (suc k) n = All-cons IsByte (byte_at i n) (bytes_low_first (suc i) k n) (byte_at-lt i n) (low_bytes (suc i) k n)

pub IsText-to_le_bytes : (w : Width) (n : ℕ) → IsText (to_le_bytes w n)
IsText-to_le_bytes w n = low_bytes 0 (byte_len w) n

pub IsText-le_bytes : (k n : ℕ) → IsText (le_bytes k n)
unfolding le_bytes
IsText-le_bytes k n = low_bytes 0 k n

pub ruleset number_texts = (IsText-one, IsText-le_bytes)

-- std's two words for the bytes of a number
pub le_bytes-16 : (n : ℕ) → le_bytes 2 n ≡ to_le_bytes w16 n
unfolding le_bytes
le_bytes-16 n = refl

pub le_bytes-32 : (n : ℕ) → le_bytes 4 n ≡ to_le_bytes w32 n
unfolding le_bytes
le_bytes-32 n = refl

pub le_bytes-64 : (n : ℕ) → le_bytes 8 n ≡ to_le_bytes w64 n
unfolding le_bytes
le_bytes-64 n = refl

pub ruleset number_bytes = (le_bytes-16, le_bytes-32, le_bytes-64)

-- one piece less to go over
pub rest_more : {A S : Type 0} (f : A → List ℕ) (after : S → List ℕ → S) (s t end : S) (pieces : List A) (i : ℕ) (d : A) → i < length pieces
    → t ≡ after s (f (get_or pieces i d)) → fold after s (map f (drop i pieces)) ≡ end → fold after t (map f (drop (i + 1) pieces)) ≡ end
rest_more f after s t end pieces i d below step rest =
    ap (λ u. fold after u (map f (drop (i + 1) pieces))) step
    ∙ sym (at_drop_more (λ ps. fold after s (map f ps)) pieces i d below) ∙ rest

-- the bytes of a slice are a text
pub IsText-from_slice : (text : List ℕ) → ((i : ℕ) → Fits w8 (get_or text i 0)) → IsText text
IsText-from_slice text fits = All-from_get_or IsByte text 0 (λ i below. let fit = fits i in search rules)
