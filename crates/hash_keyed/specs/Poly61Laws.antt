-- A step for each byte leads to the value of the text's polynomial.
use Rattle.std.proofs.Common.{ℕ, zero, suc, ◌≡◌, ◌+◌, ◌*◌, ◌%◌, ◌^◌, ◌<◌, ◌≤◌, List, [], ◌∷◌, ◌++◌, length, fold, refl, sym, ap, ◌∙◌, arith, lit<, inl, inr, nat_lt, mod-lt, le_refl, length-append, ap₂, subst}
use Rattle.std.proofs.lemmas.Bool.{cases_lt, cond-true, cond-false, lt-ltb, le-ltb}
use Rattle.std.proofs.lemmas.List.Sums.{fold-append}
use Rattle.std.proofs.lemmas.List.Elements.{All-nil, All-head, All-tail, All-append}
use Rattle.std.proofs.lemmas.Nat.{pow-add, mul-le}
use Rattle.hashers.specs.Text.{IsText}
use Rattle.hashers.specs.Words.{le}
use Rattle.hashers.proofs.TextLaws.{IsByte}
use Rattle.hash_keyed.specs.Poly61.{prime61, poly_step, poly_hash, words, words_from}
use Rattle.hash_keyed.specs.Poly61State.{Position, start_at, byte_in, after, poly_end, as_word, poly61, IsPosition, PolyStandsAt, poly61_from}

-- eight bits more
pow_more : (n : ℕ) → 2 ^ (8 * (n + 1)) ≡ 256 * 2 ^ (8 * n)
pow_more n = let e : 8 * (n + 1) ≡ 8 + 8 * n = omega arith in ap (λ k. 2 ^ k) e ∙ pow-add 2 8 (8 * n)

-- a byte behind others, in their number
pub le-push : (kept : List ℕ) (byte : ℕ) → le (kept ++ byte ∷ []) ≡ le kept + byte * 2 ^ (8 * length kept)
unfolding le
le-push [] byte = omega arith
le-push (b ∷ kept) byte =
    let e : 8 * suc (length kept) ≡ 8 * (length kept + 1) = omega arith in
    let more : 2 ^ (8 * suc (length kept)) ≡ 256 * 2 ^ (8 * length kept) = ap (λ k. 2 ^ k) e ∙ pow_more (length kept) in
    let scaled = ap (λ k. byte * k) more in
    omega (arith, le-push kept byte, scaled)

-- the two cases of a byte
pub byte_in-part : (at : Position) (byte : ℕ) → at.count < 6
    → byte_in at byte ≡ record { key = at.key; state = at.state; word = at.word + byte * 2 ^ (8 * at.count); count = at.count + 1 }
unfolding byte_in
byte_in-part at byte part = cond-true (nat_lt at.count 6) _ _ (lt-ltb at.count 6 part)

pub byte_in-full : (at : Position) (byte : ℕ) → 6 ≤ at.count
    → byte_in at byte ≡ record { key = at.key; state = poly_step prime61 at.key at.state (at.word + byte * 2 ^ (8 * at.count)); word = 0; count = 0 }
unfolding byte_in
byte_in-full at byte full = cond-false (nat_lt at.count 6) _ _ (le-ltb at.count 6 full)

-- ---- the range

pub IsPosition-start : (key : ℕ) → key < prime61 → IsPosition (start_at key)
IsPosition-start key key_in = record {
  key_in = key_in;
  state_in = lit< tt;
  word_in = lit< tt;
  count_in = lit< tt;
}

pub IsPosition-byte_in : (at : Position) (byte : ℕ) → IsPosition at → byte < 256 → IsPosition (byte_in at byte)
IsPosition-byte_in at byte is byte_in_range = elim (cases_lt at.count 6) [
  | inl part ↦ rw (byte_in-part at byte part) (record {
    key_in = is.key_in;
    state_in = is.state_in;
    word_in = omega (arith, is.word_in, pow_more at.count, mul-le byte (2 ^ (8 * at.count)) 255 (2 ^ (8 * at.count)) (omega arith) (le_refl (2 ^ (8 * at.count))));
    count_in = omega arith;
  })
  | inr full ↦ rw (byte_in-full at byte full) (record {
    key_in = is.key_in;
    state_in = mod-lt _ (lit< tt);
    word_in = lit< tt;
    count_in = lit< tt;
  })
]

pub IsPosition-after : (at : Position) (text : List ℕ) → IsPosition at → IsText text → IsPosition (after at text)
IsPosition-after at [] is text_is = is
IsPosition-after at (byte ∷ text) is text_is =
    IsPosition-after (byte_in at byte) text (IsPosition-byte_in at byte is (All-head IsByte byte text text_is)) (All-tail IsByte byte text text_is)

-- ---- texts

pub after-nil : (at : Position) → IsPosition at → after at [] ≡ at
after-nil at is = refl

pub after-append : (at : Position) (text more : List ℕ) → IsPosition at → IsText text → IsText more
    → after at (text ++ more) ≡ after (after at text) more
after-append at text more is one two = fold-append byte_in at text more

end_word : Position → ℕ
end_word at = poly_step prime61 at.key at.state (at.word + 2 ^ (8 * at.count))

abbrev pub full_at : ℕ → ℕ → ℕ → Position
full_at key state w = record { key = key; state = poly_step prime61 key state w; word = 0; count = 0 }

abbrev pub part_at : ℕ → ℕ → ℕ → ℕ → Position
part_at key state w n = record { key = key; state = state; word = w; count = n }

abbrev pub behind : ℕ → ℕ → List ℕ → Position
behind key state kept = record { key = key; state = state; word = le kept; count = length kept }

-- a byte behind six fills their word, and one behind fewer goes behind them
pub byte_fills : (key state : ℕ) (kept : List ℕ) (byte : ℕ) → length kept ≡ 6
    → byte_in (behind key state kept) byte ≡ behind key (poly_step prime61 key state (le (kept ++ byte ∷ []))) []
unfolding le
byte_fills key state kept byte six =
    byte_in-full (behind key state kept) byte (omega arith) ∙ ap (λ w. full_at key state w) (sym (le-push kept byte))

pub byte_behind : (key state : ℕ) (kept : List ℕ) (byte : ℕ) → length kept < 6
    → byte_in (behind key state kept) byte ≡ behind key state (kept ++ byte ∷ [])
byte_behind key state kept byte few =
    byte_in-part (behind key state kept) byte few
    ∙ ap₂ (λ w n. part_at key state w n) (sym (le-push kept byte)) (sym (length-append kept (byte ∷ [])))

-- the state after all words of a text is where its bytes lead, with the last word
by_words : (r key state : ℕ) (kept text : List ℕ) → r + length kept ≡ 6
    → fold (poly_step prime61 key) state (words_from r kept text) ≡ end_word (after (behind key state kept) text)
unfolding words_from end_word le
by_words r key state kept [] room =
    let one : le kept + 1 * 2 ^ (8 * length kept) ≡ le kept + 2 ^ (8 * length kept) = omega arith in
    ap (poly_step prime61 key state) (le-push kept 1 ∙ one)
by_words zero key state kept (byte ∷ text) room =
    by_words 6 key (poly_step prime61 key state (le (kept ++ byte ∷ []))) [] text (omega arith)
    ∙ ap (λ a. end_word (after a text)) (sym (byte_fills key state kept byte (omega arith)))
by_words (suc r) key state kept (byte ∷ text) room =
    by_words r key state (kept ++ byte ∷ []) text (omega (arith, length-append kept (byte ∷ [])))
    ∙ ap (λ a. end_word (after a text)) (sym (byte_behind key state kept byte (omega arith)))

-- no byte changes the key
after-key : (at : Position) (text : List ℕ) → (after at text).key ≡ at.key
after-key at [] = refl
after-key at (byte ∷ text) = after-key (byte_in at byte) text ∙ elim (cases_lt at.count 6) [
  | inl part ↦ ap (λ (a : Position). a.key) (byte_in-part at byte part)
  | inr full ↦ ap (λ (a : Position). a.key) (byte_in-full at byte full)
]

-- the value where a text leads from a state
pub poly_end-from : (key state : ℕ) (text : List ℕ)
    → poly_end (after (behind key state []) text) ≡ (fold (poly_step prime61 key) state (words text) * key) % prime61
unfolding end_word
poly_end-from key state text =
    ap₂ (λ e k. (e * k) % prime61) (sym (by_words 6 key state [] text (omega arith))) (after-key (behind key state []) text)

-- from the start it is that of the text's polynomial
pub poly_end-is : (key : ℕ) (text : List ℕ) → poly_end (after (start_at key) text) ≡ poly_hash prime61 key text
unfolding le
poly_end-is key text = poly_end-from key 1 text

pub poly61-is : (key : ℕ) (text : List ℕ) → poly61 key text ≡ as_word (poly_end (after (start_at key) text))
poly61-is key text = ap as_word (sym (poly_end-is key text))

-- ---- where a hasher stands

pub stands_at_key : (at : Position) (key : ℕ) → key < prime61 → at ≡ start_at key → PolyStandsAt at (key ∷ []) []
stands_at_key at key key_in there = record {
  key = key;
  only = refl;
  key_in = key_in;
  is_text = All-nil IsByte;
  there = there;
}

pub stands_after : (at to : Position) (from text piece : List ℕ) → IsText piece → to ≡ after at piece → PolyStandsAt at from text
    → PolyStandsAt to from (text ++ piece)
stands_after at to from text piece bytes led stood = record {
  key = stood.key;
  only = stood.only;
  key_in = stood.key_in;
  is_text = All-append IsByte text piece stood.is_text bytes;
  there = led ∙ ap (λ (a : Position). after a piece) stood.there ∙ sym (fold-append byte_in (start_at stood.key) text piece);
}

pub stands_in_range : (at : Position) (from text : List ℕ) → PolyStandsAt at from text → IsPosition at
stands_in_range at from text stood =
    subst IsPosition (sym stood.there) (IsPosition-after (start_at stood.key) text (IsPosition-start stood.key stood.key_in) stood.is_text)

pub answer_where_stands : (at : Position) (from text : List ℕ) → PolyStandsAt at from text → as_word (poly_end at) ≡ poly61_from from text
answer_where_stands at from text stood =
    ap (λ (a : Position). as_word (poly_end a)) stood.there ∙ ap as_word (poly_end-is stood.key text)
    ∙ ap (λ (keys : List ℕ). poly61_from keys text) (sym stood.only)

pub hash_from_key : (key : ℕ) (text : List ℕ) → IsText text → as_word (poly_end (after (start_at key) text)) ≡ poly61_from (key ∷ []) text
hash_from_key key text bytes = ap as_word (poly_end-is key text)
