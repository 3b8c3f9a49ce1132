-- What std feeds a hasher of a key.
use Rattle.hash_writes.proofs.Common.{ℕ, ◌≡◌, ◌<◌, List, [], ◌∷◌, ◌++◌, fold, ap, sym, ◌∙◌, refl, lit<, append-nil, All, All-nil, All-append, All-cons, All-head, All-tail, IsText, IsText-one, IsText-le_bytes, IsByte, fold-pieces}
use Rattle.std.proofs.lemmas.List.Concat.{concat_is}
use Rattle.std.specs.List.{concat, flat_map}
use Rattle.std.specs.Hash.{le_bytes, str}

-- what is written is fed, write by write
pub state_after_writes : {A S : Type 0} (write : A → List ℕ → A) (state : A → S) (after : S → List ℕ → S)
    → ((h : A) (piece : List ℕ) → state (write h piece) ≡ after (state h) piece)
    → (h : A) (s : S) (writes : List (List ℕ)) → state h ≡ s → state (fold write h writes) ≡ fold after s writes
state_after_writes write state after feeds h s [] same = same
state_after_writes write state after feeds h s (piece ∷ writes) same =
    state_after_writes write state after feeds (write h piece) (after s piece) writes (feeds h piece ∙ ap (λ t. after t piece) same)

-- where a text in two pieces leads to where it leads whole, the writes lead to where they lead joined
pub fold-concat : {S : Type 0} (in_range : S → Type 0) (after : S → List ℕ → S)
    → ((s : S) (piece : List ℕ) → in_range s → IsText piece → in_range (after s piece))
    → ((s : S) → in_range s → after s [] ≡ s)
    → ((s : S) (text more : List ℕ) → in_range s → IsText text → IsText more → after s (text ++ more) ≡ after (after s text) more)
    → (s : S) (writes : List (List ℕ)) → in_range s → All IsText writes → fold after s writes ≡ after s (concat writes)
fold-concat in_range after stays nothing joins s writes known texts =
    (fold-pieces in_range after stays nothing joins s writes known texts).0 ∙ ap (after s) (sym (concat_is writes))

-- two writes, joined
pub two_writes : (first second : List ℕ) → concat (first ∷ second ∷ []) ≡ first ++ second
two_writes first second = concat_is (first ∷ second ∷ []) ∙ ap (λ t. first ++ t) (append-nil second)

each_byte : (bytes : List ℕ) → flat_map (λ w. w) (flat_map (λ b. (b ∷ []) ∷ []) bytes) ≡ bytes
each_byte [] = refl
each_byte (b ∷ bytes) = ap (λ t. b ∷ t) (each_byte bytes)

-- the writes of a slice of bytes, joined
pub slice_writes : (length_bytes bytes : List ℕ) → concat (length_bytes ∷ flat_map (λ b. (b ∷ []) ∷ []) bytes) ≡ length_bytes ++ bytes
slice_writes length_bytes bytes = concat_is (length_bytes ∷ flat_map (λ b. (b ∷ []) ∷ []) bytes)
    ∙ ap (λ t. length_bytes ++ t) (each_byte bytes)

-- a write for each byte is a step for each
pub fold-byte_writes : {S : Type 0} (after : S → List ℕ → S) (s : S) (bytes : List ℕ)
    → fold after s (flat_map (λ b. (b ∷ []) ∷ []) bytes) ≡ fold (λ s b. after s (b ∷ [])) s bytes
fold-byte_writes after s [] = refl
fold-byte_writes after s (b ∷ bytes) = fold-byte_writes after (after s (b ∷ [])) bytes

byte_texts : (bytes : List ℕ) → IsText bytes → All IsText (flat_map (λ b. (b ∷ []) ∷ []) bytes)
byte_texts [] texts = All-nil IsText
byte_texts (b ∷ bytes) texts =
    All-cons IsText (b ∷ []) (flat_map (λ c. (c ∷ []) ∷ []) bytes) (IsText-one b (All-head IsByte b bytes texts))
    (byte_texts bytes (All-tail IsByte b bytes texts))

-- the writes of a number, of two, and of a slice of bytes are texts
pub one_text : (n : ℕ) → All IsText (le_bytes 8 n ∷ [])
one_text n = All-cons IsText (le_bytes 8 n) [] (IsText-le_bytes 8 n) (All-nil IsText)

pub two_texts : (n m : ℕ) → All IsText (le_bytes 8 n ∷ le_bytes 8 m ∷ [])
two_texts n m = All-cons IsText (le_bytes 8 n) (le_bytes 8 m ∷ []) (IsText-le_bytes 8 n) (one_text m)

pub slice_texts : (n : ℕ) (bytes : List ℕ) → IsText bytes → All IsText (le_bytes 8 n ∷ flat_map (λ b. (b ∷ []) ∷ []) bytes)
slice_texts n bytes texts = All-cons IsText (le_bytes 8 n) _ (IsText-le_bytes 8 n) (byte_texts bytes texts)

-- the writes of each kind of part are texts: of a number, a byte, a string, and of one part after another
pub number_text : (bytes n : ℕ) → All IsText (le_bytes bytes n ∷ [])
number_text bytes n = All-cons IsText (le_bytes bytes n) [] (IsText-le_bytes bytes n) (All-nil IsText)

pub byte_text : (byte : ℕ) → byte < 256 → All IsText ((byte ∷ []) ∷ [])
byte_text byte below = All-cons IsText (byte ∷ []) [] (IsText-one byte below) (All-nil IsText)

pub str_texts : (bytes : List ℕ) → IsText bytes → All IsText (str bytes)
str_texts bytes text = All-cons IsText bytes ((255 ∷ []) ∷ []) text (byte_text 255 (lit< tt))

pub parts_texts : (first second : List (List ℕ)) → All IsText first → All IsText second → All IsText (first ++ second)
parts_texts first second = All-append IsText first second

pub ruleset key_texts = (number_text, byte_text, str_texts, slice_texts, parts_texts)
