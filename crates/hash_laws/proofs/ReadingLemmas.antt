-- Reads into a part of a buffer, and texts cut into pieces.
use Rattle.std.proofs.Common.{ℕ, zero, suc, ◌≡◌, ◌+◌, ◌-◌, ◌*◌, ◌/◌, ◌%◌, ◌<◌, ◌≤◌, List, [], ◌∷◌, ◌++◌, length, take, drop, map, fold, ap, sym, ◌∙◌, refl, arith, Option, length-take-le, length-append, length-drop, add-zero, zero-add, zero-mul, min, subst, All, slice_index_or}
use Rattle.std.specs.List.{range_with_len, flat_map}
use Rattle.std.specs.Io.KnownBytes.{Consumes}
use Rattle.std.proofs.KnownBytes.{Consumes-nil, Consumes-trans}
use Rattle.std.proofs.Math.Nat.{mul-le-mul_right, add-mod_right, add-mul-mod_self_right, zero-mod}
use Rattle.std.proofs.Math.Seq.{take-append-add, take-add}
use Rattle.std.proofs.lemmas.List.{take-append-le, drop-append-le, drop_at, take_all, append-nil, flat_map_more}
use Rattle.std.proofs.lemmas.List.Sums.{fold-append}
use Rattle.std.proofs.lemmas.List.FromFn.{map-range_with_len_more}
use Rattle.std.proofs.lemmas.Nat.{mod_below, div-mul-add, div-add-mod'}
use borrow.Rule.Slice.PartMut.{put_mid, post_of}
use Rattle.std.proofs.lemmas.List.Elements.{All-nil, All-append, All-map, All-take, All-drop}
use Rattle.hash_laws.specs.Text.{IsText}
use Rattle.hash_laws.specs.Reading.{cut, FeedsRead, HashesRead}
use Rattle.hash_laws.proofs.PieceFolds.{fold-pieces}
use Rattle.hash_laws.specs.TextLaws.{IsByte}

-- what stands at the front of a buffer after a write behind it
pub take-put : (at k n : ℕ) (buf part : List ℕ) → at ≤ length buf → n ≤ length part
    → take (at + n) (put_mid at k buf part) ≡ take at buf ++ take n part
take-put at k n buf part within fits =
    let front = take at buf in
    ap (λ m. take (m + n) (front ++ (part ++ post_of at k buf))) (sym (length-take-le at buf within))
    ∙ take-append-add front (part ++ post_of at k buf) n
    ∙ ap (λ t. front ++ t) (take-append-le n part (post_of at k buf) fits)

same_map : {X : Type 0} (f g : ℕ → X) (a k : ℕ) → ((i : ℕ) → i < a + k → f i ≡ g i)
    → map f (range_with_len a k) ≡ map g (range_with_len a k)
same_map f g a zero same = refl
same_map f g a (suc k) same = ap (λ x. x ∷ map f (range_with_len (a + 1) k)) (same a (omega arith))
    ∙ ap (λ xs. g a ∷ xs) (same_map f g (a + 1) k (λ i below. same i (omega arith)))

abbrev piece_at : ℕ → List ℕ → ℕ → List ℕ
piece_at n text i = take n (drop (i * n) text)

abbrev pieces_in : ℕ → List ℕ → ℕ
pieces_in n text = (length text + (n - 1)) / n

whole_pieces : (n k : ℕ) (text : List ℕ) → 0 < n → length text ≡ k * n → pieces_in n text ≡ k
whole_pieces n k text some whole = ap (λ len. (len + (n - 1)) / n) whole ∙ div-mul-add k n (n - 1) (omega arith)

one_piece_more : (n k : ℕ) (text piece : List ℕ) → length text ≡ k * n → 0 < length piece → length piece ≤ n
    → pieces_in n (text ++ piece) ≡ k + 1
one_piece_more n k text piece whole some fits =
    let sum : length (text ++ piece) + (n - 1) ≡ (k + 1) * n + (length piece - 1) = omega (arith, length-append text piece) in
    ap (λ m. m / n) sum ∙ div-mul-add (k + 1) n (length piece - 1) (omega arith)

piece_before : (n k : ℕ) (text piece : List ℕ) → length text ≡ k * n → (i : ℕ) → i < k → piece_at n (text ++ piece) i ≡ piece_at n text i
piece_before n k text piece whole i below =
    let next : i + 1 ≤ k = omega arith in
    let far = mul-le-mul_right n next in
    let within : i * n ≤ length text = omega (arith, far) in
    let room : n ≤ length (drop (i * n) text) = omega (arith, far, length-drop (i * n) text) in
    ap (take n) (drop-append-le (i * n) text piece within) ∙ take-append-le n (drop (i * n) text) piece room

-- whole pieces and one more, which may be shorter
pub cut_more : (n k : ℕ) (text piece : List ℕ) → 0 < n → length text ≡ k * n → 0 < length piece → length piece ≤ n
    → cut n (text ++ piece) ≡ cut n text ++ piece ∷ []
cut_more n k text piece some whole filled fits =
    let both = text ++ piece in
    ap (λ m. map (piece_at n both) (range_with_len 0 m)) (one_piece_more n k text piece whole filled fits)
    ∙ map-range_with_len_more (piece_at n both) 0 k k (omega arith)
    ∙ ap (λ ps. ps ++ piece_at n both k ∷ []) (same_map (piece_at n both) (piece_at n text) 0 k
    (λ i below. piece_before n k text piece whole i (omega arith)))
    ∙ ap (λ p. map (piece_at n text) (range_with_len 0 k) ++ p ∷ [])
    (ap (take n) (drop_at text piece (k * n) whole) ∙ take_all n piece fits)
    ∙ ap (λ m. map (piece_at n text) (range_with_len 0 m) ++ piece ∷ []) (sym (whole_pieces n k text some whole))

module _ {S : Type 0} (after : S → List ℕ → S) where
  -- a piece more was read, and fed unless it is empty
  pub feeds_more : (n : ℕ) (a b c : Option (List ℕ)) (s t u : S) (bytes : ℕ) (piece : List ℕ) → 0 < n → FeedsRead after n a b s t bytes
      → bytes % n ≡ 0
      → Consumes b c piece → IsText piece → length piece ≤ n → (length piece ≡ 0 → u ≡ t) → (0 < length piece → u ≡ after t piece)
      → FeedsRead after n a c s u (bytes + length piece)
  feeds_more n a b c s t u bytes [] some before whole read bytes_read fits empty fed =
      record {
        text = before.text;
        is_text = before.is_text;
        read = rw append-nil at (Consumes-trans a b c before.text [] before.read read);
        count = before.count ∙ sym (add-zero bytes);
        fed = empty refl ∙ before.fed;
      }
  feeds_more n a b c s t u bytes (x ∷ xs) some before whole read bytes_read fits empty fed =
      let piece = x ∷ xs in
      let filled : 0 < length piece = omega arith in
      let pieces : length before.text ≡ bytes / n * n = omega (arith, before.count, div-add-mod' bytes n) in
      record {
        text = before.text ++ piece;
        is_text = All-append IsByte before.text piece before.is_text bytes_read;
        read = Consumes-trans a b c before.text piece before.read read;
        count = length-append before.text piece ∙ ap (λ m. m + length piece) before.count;
        fed = fed filled ∙ ap (λ v. after v piece) before.fed
            ∙ sym (ap (fold after s) (cut_more n (bytes / n) before.text piece some pieces filled fits)
            ∙ fold-append after s (cut n before.text) (piece ∷ []));
      }

  -- the same for the front of a buffer
  pub feeds_front : {H : Type 0} {n bytes : ℕ} {a b c : Option (List ℕ)} {s : S} (state : H → S) (h h' : H) (filled : ℕ)
      (buf rest : List ℕ) → 0 < n
      → FeedsRead after n a b s (state h) bytes → bytes % n ≡ 0
      → Consumes b c (take filled buf) → filled ≤ length buf → filled ≤ n
      → IsText (take filled (buf ++ rest)) → (length (take filled (buf ++ rest)) ≡ 0 → h' ≡ h)
      → (0 < length (take filled (buf ++ rest)) → state h' ≡ after (state h) (take filled (buf ++ rest)))
      → FeedsRead after n a c s (state h') (bytes + filled)
  feeds_front {H} {n} {bytes} {a} {b} {c} {s} state h h' filled buf rest some before whole read within fits bytes_read empty fed =
      let same = take-append-le filled buf rest within in
      let count = length-take-le filled buf within in
      let few : length (take filled buf) ≤ n = omega (arith, count) in
      subst (λ m. FeedsRead after n a c s (state h') (bytes + m)) count
      (feeds_more n a b c s (state h) (state h') bytes (take filled buf) some before whole read (rw same at bytes_read) few
      (λ none. ap state ((rw same at empty) none))
      (rw same at fed))

  -- before the first read
  pub feeds_none : (n : ℕ) (a : Option (List ℕ)) (s : S) → 0 < n → FeedsRead after n a a s s 0
  feeds_none n a s some =
      record {
        text = [];
        is_text = All-nil IsByte;
        read = Consumes-nil a;
        count = refl;
        fed = sym (ap (λ m. fold after s (map (piece_at n []) (range_with_len 0 m))) (whole_pieces n 0 [] some (omega arith)));
      }

-- while the limit is not met, whole pieces were read
pub whole_more : (n bytes filled limit : ℕ) → 0 < n → filled ≡ min (limit - bytes) n → bytes % n ≡ 0 → bytes + filled < limit
    → (bytes + filled) % n ≡ 0
whole_more n bytes filled limit some room whole below =
    let full : filled ≡ n = omega arith in
    ap (λ m. (bytes + m) % n) full ∙ add-mod_right bytes n ∙ whole

-- the pieces of a text, joined, are the text
joined_cut : (n k : ℕ) (text : List ℕ) → flat_map (λ p. p) (map (piece_at n text) (range_with_len 0 k)) ≡ take (k * n) text
joined_cut n zero text = rw zero-mul refl
joined_cut n (suc k) text =
    let pieces = map (piece_at n text) (range_with_len 0 k) in
    let next : k + 1 ≡ suc k = omega arith in
    let whole : k * n + n ≡ suc k * n = omega arith in
    ap (λ m. flat_map (λ p. p) (map (piece_at n text) (range_with_len 0 m))) (sym next)
    ∙ ap (flat_map (λ p. p)) (map-range_with_len_more (piece_at n text) 0 k k (omega arith))
    ∙ sym (flat_map_more (λ p. p) [] pieces (piece_at n text k))
    ∙ ap (λ t. t ++ piece_at n text k) (joined_cut n k text)
    ∙ sym (take-add (k * n) n text) ∙ ap (λ m. take m text) whole

pub flat_map-cut : (n : ℕ) (text : List ℕ) → 0 < n → flat_map (λ p. p) (cut n text) ≡ text
flat_map-cut n text some =
    let enough : length text ≤ pieces_in n text * n
    = omega (arith, div-add-mod' (length text + (n - 1)) n, mod_below (length text + (n - 1)) n some) in
    joined_cut n (pieces_in n text) text ∙ take_all (pieces_in n text * n) text enough

-- each piece of a cut text is a text
cut_texts : (n : ℕ) (text : List ℕ) → IsText text → All IsText (cut n text)
cut_texts n text bytes =
    All-map IsText (piece_at n text) (range_with_len 0 (pieces_in n text))
    (λ k d below. All-take IsByte n (drop (slice_index_or (range_with_len 0 (pieces_in n text)) k d * n) text)
    (All-drop IsByte _ text bytes))

-- where a text in two pieces leads to where it leads whole, so does one in any pieces
module _ {S : Type 0} (is_state : S → Type 0) (after : S → List ℕ → S)
    (after_in_range : (s : S) (piece : List ℕ) → is_state s → IsText piece → is_state (after s piece))
    (after_nothing : (s : S) → is_state s → after s [] ≡ s)
    (after_joined : (s : S) (text more : List ℕ) → is_state s → IsText text → IsText more
    → after s (text ++ more) ≡ after (after s text) more) where
  -- a cut text leads to where the text leads
  pub fold-cut : (n : ℕ) (s : S) (text : List ℕ) → 0 < n → is_state s → IsText text → fold after s (cut n text) ≡ after s text
  fold-cut n s text some known bytes = (fold-pieces is_state after after_in_range after_nothing after_joined s (cut n text) known (cut_texts n text bytes)).0
      ∙ ap (after s) (flat_map-cut n text some)

  -- what was read in pieces leads to where it leads as one text
  pub HashesRead-fed : {H : Type 0} (state : H → S) (stands_at : H → List ℕ → List ℕ → Type 0)
      → ((h k : H) (from text piece : List ℕ) → IsText piece → state k ≡ after (state h) piece → stands_at h from text
      → stands_at k from (text ++ piece))
      → (n : ℕ) (left left' : Option (List ℕ)) (h h' : H) (bytes : ℕ) → 0 < n → is_state (state h)
      → FeedsRead after n left left' (state h) (state h') bytes → HashesRead state after stands_at left left' h h' bytes
  HashesRead-fed state stands_at stands_after n left left' h h' bytes some known fed =
      let hashed : state h' ≡ after (state h) fed.text = fed.fed ∙ fold-cut n (state h) fed.text some known fed.is_text in
      record {
        text = fed.text;
        is_text = fed.is_text;
        read = fed.read;
        count = fed.count;
        hashed = hashed;
        stands = λ from before. stands_after h h' from before fed.text fed.is_text hashed;
      }

  -- the same of what is answered
  pub answer-cut : (answer : S → ℕ) (s : S) → is_state s → (hash : List ℕ → ℕ)
      → ((text : List ℕ) → IsText text → answer (after s text) ≡ hash text)
      → (n : ℕ) → 0 < n → (text : List ℕ) → IsText text → answer (fold after s (cut n text)) ≡ hash text
  answer-cut answer s known hash whole n some text bytes = ap answer (fold-cut n s text some known bytes) ∙ whole text bytes

-- where a text in two pieces leads to where it leads whole if the first is whole pieces of n, so does one cut into pieces of n
module _ {S : Type 0} (after : S → List ℕ → S) (s : S) (n : ℕ) (some : 0 < n) (nothing : after s [] ≡ s)
    (whole_then : (text more : List ℕ) → length text % n ≡ 0 → after s (text ++ more) ≡ after (after s text) more) where
  fold-pieces_at : (k : ℕ) (text : List ℕ) → k * n < length text + n
      → fold after s (map (piece_at n text) (range_with_len 0 k)) ≡ after s (take (k * n) text)
  fold-pieces_at zero text within = sym (ap (λ m. after s (take m text)) (zero-mul n) ∙ nothing)
  fold-pieces_at (suc k) text within =
      let next : k + 1 ≡ suc k = omega arith in
      let sum : k * n + n ≡ suc k * n = omega arith in
      let enough : k * n ≤ length text = omega (arith, sum, within) in
      let count : length (take (k * n) text) ≡ k * n = length-take-le (k * n) text enough in
      let whole : length (take (k * n) text) % n ≡ 0 = ap (λ m. m % n) (count ∙ sym (zero-add (k * n))) ∙ add-mul-mod_self_right 0 k n
      ∙ zero-mod n in
      ap (λ m. fold after s (map (piece_at n text) (range_with_len 0 m))) (sym next)
      ∙ ap (fold after s) (map-range_with_len_more (piece_at n text) 0 k k (omega arith))
      ∙ fold-append after s (map (piece_at n text) (range_with_len 0 k)) (piece_at n text k ∷ [])
      ∙ ap (λ t. after t (piece_at n text k)) (fold-pieces_at k text (omega (arith, enough, some)))
      ∙ sym (whole_then (take (k * n) text) (piece_at n text k) whole)
      ∙ ap (after s) (sym (take-add (k * n) n text) ∙ ap (λ m. take m text) sum)

  pub fold-cut_whole : (text : List ℕ) → fold after s (cut n text) ≡ after s text
  fold-cut_whole text =
      let exact = div-add-mod' (length text + (n - 1)) n in
      let below = mod_below (length text + (n - 1)) n some in
      let within : pieces_in n text * n < length text + n = omega (arith, exact, some) in
      let enough : length text ≤ pieces_in n text * n = omega (arith, exact, below) in
      fold-pieces_at (pieces_in n text) text within ∙ ap (after s) (take_all (pieces_in n text * n) text enough)
