-- A filter's file, piece by piece.
use Rattle.hash_bloom.proofs.Common.{◌≡◌, ℕ, suc, ◌+◌, ◌*◌, ◌<◌, ◌^◌, ◌≤◌, List, [], ◌∷◌, ◌++◌, length, take, drop, get_or, Option, Some, None, refl, sym, ap, ◌∙◌, subst, append_assoc, arith, codes, take-append-drop, Appends, Consumes, flat_map-append, append_cancel_left, append_cancel_right, flat_map_more, length-append, take_all, take_more, from_le_bytes-to_le_bytes_8, from_le_bytes, to_le_bytes, fnv1a64_from, AppendsPart, part_behind, part_longer, hex, hex_value, hex_value-hex, length-hex, IsStored, bytes_of, field, file_of, header, seal, sealed, title, Filter, filter_of, w64, common_steps, nat_tests}
use Rattle.std.proofs.KnownBytes.{Appends-trans, Consumes-trans}
use Rattle.std.proofs.Math.Seq.{take-append_seam}
use Rattle.hashers.proofs.RecurrenceLaws.{recurrence-append}

-- one word more behind the header
pub bytes_more : (header words : List ℕ) (i : ℕ) → i < length words
    → (header ++ bytes_of (take i words)) ++ to_le_bytes w64 (get_or words i 0) ≡ header ++ bytes_of (take (i + 1) words)
bytes_more header words i below = grind (arith, nat_tests, common_steps, flat_map_more, take_more)

-- the hash so far, and one word more
pub hash_more : (s : ℕ) (header words : List ℕ) (i : ℕ) → i < length words
    → fnv1a64_from (fnv1a64_from s (header ++ bytes_of (take i words))) (to_le_bytes w64 (get_or words i 0))
    ≡ fnv1a64_from s (header ++ bytes_of (take (i + 1) words))
hash_more s header words i below = grind (arith, nat_tests, common_steps, recurrence-append, bytes_more)

-- bytes that were read, as many as stand in front
pub front_is : (old new : Option (List ℕ)) (read front rest : List ℕ) → Consumes old new read → length read ≡ length front
    → old ≡ Some (front ++ rest) → (read ≡ front) × (new ≡ Some rest)
front_is None new read front rest took long known = cc
front_is (Some xs) None read front rest took long known = absurd took
front_is (Some xs) (Some ys) read front rest took long known =
    let same : read ++ ys ≡ front ++ rest = let whole : xs ≡ front ++ rest = cc in sym took ∙ whole in
    let first : read ≡ front =
    sym (take-append_seam read ys) ∙ ap (take (length read)) same ∙ ap (λ n. take n (front ++ rest)) long ∙ take-append_seam front rest in
    (first, ap Some (append_cancel_left front ys rest (ap (λ t. t ++ ys) (sym first) ∙ same)))

-- what is left behind a front that was read
pub left_behind : (old new : Option (List ℕ)) (front rest : List ℕ) → Consumes old new front → old ≡ Some (front ++ rest) → new ≡ Some rest
left_behind old new front rest took known = (front_is old new front front rest took refl known).1

-- a field that was read, where one stands in front
pub field_is : (old new : Option (List ℕ)) (digits number : ℕ) (read rest : List ℕ) → Consumes old new read → length read ≡ digits
    → old ≡ Some (field digits number ++ rest) → (read ≡ hex digits number) × (new ≡ Some (codes " " ++ rest))
unfolding field
field_is old new digits number read rest took long known = grind (arith, nat_tests, common_steps, front_is, length-hex, append_assoc)

-- a field that was read to its end
pub field_read : (old mid new : Option (List ℕ)) (digits number : ℕ) (read : List ℕ) → Consumes old mid read → Consumes mid new (codes " ")
    → hex digits number ≡ read → Consumes old new (field digits number)
unfolding field
field_read old mid new digits number read took space is =
    Consumes-trans old mid new (hex digits number) (codes " ") (subst (Consumes old mid) (sym is) took) space

-- fields of as many digits that stand in front of the same bytes
pub same_field : (old new : Option (List ℕ)) (digits number other : ℕ) (rest : List ℕ) → number < 16 ^ digits → other < 16 ^ digits
    → Consumes old new (field digits number) → old ≡ Some (field digits other ++ rest) → (number ≡ other) × (new ≡ Some rest)
unfolding field
same_field old new digits number other rest small low took known =
    let long : length (field digits number) ≡ length (field digits other) =
    length-append (hex digits number) (codes " ") ∙ ap (λ n. n + 1) (length-hex digits number ∙ sym (length-hex digits other))
    ∙ sym (length-append (hex digits other) (codes " ")) in
    let (same, left) = front_is old new (field digits number) (field digits other) rest took long known in
    let one : Some number ≡ Some other = sym (hex_value-hex digits number small)
    ∙ ap hex_value (append_cancel_right (hex digits number) (hex digits other) (codes " ") same) ∙ hex_value-hex digits other low in
    (cc, left)

-- the first line and what follows, step by step
pub header_parts : (bits probes : ℕ) (pair rest : List ℕ)
    → header bits probes pair ++ rest ≡ title ++ (field 16 bits ++ (field 8 probes ++ (pair ++ (codes "\n" ++ rest))))
unfolding header
header_parts bits probes pair rest = simp append_assoc

-- what is left of a first line behind its title
pub behind_title : (old new : Option (List ℕ)) (bits probes : ℕ) (pair rest : List ℕ) → Consumes old new title
    → old ≡ Some (header bits probes pair ++ rest)
    → new ≡ Some (field 16 bits ++ (field 8 probes ++ (pair ++ (codes "\n" ++ rest))))
behind_title old new bits probes pair rest took known =
    left_behind old new title _ took (known ∙ ap Some (header_parts bits probes pair rest))

-- and behind its numbers, which are those that were read
pub behind_numbers : (old mid new : Option (List ℕ)) (b p bits probes : ℕ) (rest : List ℕ) → b < 2 ^ 64 → p < 2 ^ 32 → bits < 2 ^ 64
    → probes < 2 ^ 32 → Consumes old mid (field 16 b) → Consumes mid new (field 8 p)
    → old ≡ Some (field 16 bits ++ (field 8 probes ++ rest))
    → (b ≡ bits) × (p ≡ probes) × (new ≡ Some rest)
behind_numbers old mid new b p bits probes rest few low few' low' first second known =
    let (one, at_probes) = same_field old mid 16 b bits (field 8 probes ++ rest) few few' first known in
    let (two, left) = same_field mid new 8 p probes rest low low' second at_probes in
    (one, two, left)

-- the first line, read step by step
pub header_read : (a b c d e f : Option (List ℕ)) (bits probes : ℕ) (pair : List ℕ) → Consumes a b title → Consumes b c (field 16 bits)
    → Consumes c d (field 8 probes) → Consumes d e pair → Consumes e f (codes "\n") → Consumes a f (header bits probes pair)
unfolding header
header_read a b c d e f bits probes pair one two three four five = grind (arith, nat_tests, common_steps, Consumes-trans)

-- one word more was read
pub word_read : (a b c : Option (List ℕ)) (words next bytes : List ℕ) (word : ℕ) → Consumes a b (bytes_of words) → Consumes b c bytes
    → to_le_bytes w64 word ≡ bytes → next ≡ words ++ word ∷ [] → Consumes a c (bytes_of next)
word_read a b c words next bytes word before now is grown = grind (arith, nat_tests, common_steps, flat_map_more, Consumes-trans)

-- one word more was written behind the header
pub word_written : (a b c : Option (List ℕ)) (line words : List ℕ) (i : ℕ) → i < length words
    → Appends a b (line ++ bytes_of (take i words))
    → Appends b c (to_le_bytes w64 (get_or words i 0)) → Appends a c (line ++ bytes_of (take (i + 1) words))
word_written a b c line words i below before now = grind (arith, nat_tests, common_steps, bytes_more, Appends-trans)

-- all words, and the hash behind them
pub file_written : (a b c : Option (List ℕ)) (line words : List ℕ) (i : ℕ) → length words ≤ i
    → Appends a b (line ++ bytes_of (take i words))
    → Appends b c (seal (line ++ bytes_of words)) → Appends a c (sealed (line ++ bytes_of words))
unfolding sealed
file_written a b c line words i all before now = grind (arith, nat_tests, common_steps, take_all i words all)

-- a beginning of the whole: of the line, up to a word, and up to the hash
pub line_begun : (a b : Option (List ℕ)) (line words : List ℕ) → AppendsPart a b line → AppendsPart a b (sealed (line ++ bytes_of words))
unfolding sealed
line_begun a b line words =
    part_longer a b line (bytes_of words ++ seal (line ++ bytes_of words)) _ (sym (append_assoc line (bytes_of words) _))

pub word_begun : (a b c : Option (List ℕ)) (line words : List ℕ) (i : ℕ) → i < length words
    → Appends a b (line ++ bytes_of (take i words))
    → AppendsPart b c (to_le_bytes w64 (get_or words i 0)) → AppendsPart a c (sealed (line ++ bytes_of words))
unfolding sealed
word_begun a b c line words i below before now =
    let rest = bytes_of (drop (i + 1) words) in
    let all : bytes_of (take (i + 1) words) ++ rest ≡ bytes_of words =
    sym (flat_map-append (to_le_bytes w64) (take (i + 1) words) (drop (i + 1) words)) ∙ ap bytes_of (take-append-drop (i + 1) words) in
    let hash = seal (line ++ bytes_of words) in
    part_longer a c (line ++ bytes_of (take (i + 1) words)) (rest ++ hash) (sealed (line ++ bytes_of words))
    (grind (arith, append_assoc, all))
    (subst (AppendsPart a c) (bytes_more line words i below)
    (part_behind a b c (line ++ bytes_of (take i words)) (to_le_bytes w64 (get_or words i 0)) before now))

pub hash_begun : (a b c : Option (List ℕ)) (line words : List ℕ) (i : ℕ) → length words ≤ i
    → Appends a b (line ++ bytes_of (take i words))
    → AppendsPart b c (seal (line ++ bytes_of words)) → AppendsPart a c (sealed (line ++ bytes_of words))
unfolding sealed
hash_begun a b c line words i all before now =
    part_behind a b c (line ++ bytes_of words) (seal (line ++ bytes_of words))
    (subst (λ ws. Appends a b (line ++ bytes_of ws)) (take_all i words all) before) now

-- the header, the words and the hash were read
pub file_read : (a b c d : Option (List ℕ)) (line words : List ℕ) → Consumes a b line → Consumes b c (bytes_of words)
    → Consumes c d (seal (line ++ bytes_of words)) → Consumes a d (sealed (line ++ bytes_of words))
unfolding sealed
file_read a b c d line words one two three = grind (arith, nat_tests, common_steps, Consumes-trans)

-- headers of one pair that stand in front of the same bytes
pub same_header : (old new : Option (List ℕ)) (b p bits probes : ℕ) (pair rest : List ℕ) → b < 2 ^ 64 → p < 2 ^ 32
    → bits < 2 ^ 64 → probes < 2 ^ 32 → Consumes old new (header b p pair)
    → old ≡ Some (header bits probes pair ++ rest) → (b ≡ bits) × (p ≡ probes) × (new ≡ Some rest)
same_header None new b p bits probes pair rest few low few' low' took known = cc
same_header (Some xs) None b p bits probes pair rest few low few' low' took known = absurd took
same_header (Some xs) (Some ys) b p bits probes pair rest few low few' low' took known =
    let whole : xs ≡ header bits probes pair ++ rest = cc in
    let behind = pair ++ (codes "\n" ++ ys) in
    let lines = sym (header_parts b p pair ys) ∙ sym took ∙ whole ∙ header_parts bits probes pair rest in
    let (one, two, at_pair) = behind_numbers (Some (field 16 b ++ (field 8 p ++ behind))) (Some (field 8 p ++ behind)) (Some behind)
    b p bits probes (pair ++ (codes "\n" ++ rest)) few low few' low' refl refl (ap Some (append_cancel_left title _ _ lines)) in
    let ends : pair ++ (codes "\n" ++ ys) ≡ pair ++ (codes "\n" ++ rest) = cc in
    (one, two, ap Some (append_cancel_left (codes "\n") ys rest (append_cancel_left pair _ _ ends)))

-- eight bytes a word
length-bytes_of : (words : List ℕ) → length (bytes_of words) ≡ 8 * length words
length-bytes_of [] = refl
length-bytes_of (word ∷ words) = let more = length-bytes_of words in omega arith

-- words tell their bytes, and bytes their words
pub bytes_tell_words : (words others : List ℕ) → ((i : ℕ) → get_or words i 0 < 2 ^ 64) → ((i : ℕ) → get_or others i 0 < 2 ^ 64)
    → bytes_of words ≡ bytes_of others → words ≡ others
bytes_tell_words [] [] small low same = refl
bytes_tell_words [] (other ∷ others) small low same = let clash = ap length same in absurd (omega arith)
bytes_tell_words (word ∷ words) [] small low same = let clash = ap length same in absurd (omega arith)
bytes_tell_words (word ∷ words) (other ∷ others) small low same =
    let first : word ≡ other = sym (from_le_bytes-to_le_bytes_8 word (small 0)) ∙ ap (λ t. from_le_bytes w64 (take 8 t)) same
    ∙ from_le_bytes-to_le_bytes_8 other (low 0) in
    let rest : words ≡ others = bytes_tell_words words others (λ i. small (suc i)) (λ i. low (suc i)) (ap (drop 8) same) in
    cc

-- a filter's hash at the end of its file
abbrev pub seal_of : (pair : List ℕ) → Filter → List ℕ
seal_of pair filter = seal (header filter.bits filter.probes pair ++ bytes_of filter.words)

-- a filter's file and what follows, step by step
pub file_parts : (pair : List ℕ) (filter : Filter) (rest : List ℕ)
    → file_of pair filter ++ rest ≡ header filter.bits filter.probes pair ++ (bytes_of filter.words ++ (seal_of pair filter ++ rest))
unfolding sealed
file_parts pair filter rest = simp append_assoc

-- what was read of a filter's file in front of its hash
pub record Left (left : Option (List ℕ)) (b p : ℕ) (pair words : List ℕ) (filter : Filter) (rest : List ℕ) : Type 0 where
  pub bits : b ≡ filter.bits
  pub probes : p ≡ filter.probes
  pub bytes : bytes_of words ≡ bytes_of filter.words
  pub behind : left ≡ Some (seal (header b p pair ++ bytes_of words) ++ rest)

pub file_left : (old mid left : Option (List ℕ)) (b p : ℕ) (pair words : List ℕ) (filter : Filter) (rest : List ℕ) → IsStored filter
    → b < 2 ^ 64 → p < 2 ^ 32 → b ≤ 64 * length words → 64 * length words < b + 64
    → Consumes old mid (header b p pair) → Consumes mid left (bytes_of words) → old ≡ Some (file_of pair filter ++ rest)
    → Left left b p pair words filter rest
file_left old mid left b p pair words filter rest stored few low enough no_more took read known =
    let seal = seal_of pair filter in
    let (one, two, at_words) = same_header old mid b p filter.bits filter.probes pair (bytes_of filter.words ++ (seal ++ rest))
    few low stored.bits stored.probes took (known ∙ ap Some (file_parts pair filter rest)) in
    let count : length words ≡ length filter.words = omega (arith, stored.is_filter.room.enough, stored.is_filter.no_more) in
    let long : length (bytes_of words) ≡ length (bytes_of filter.words) =
    length-bytes_of words ∙ ap (λ n. 8 * n) count ∙ sym (length-bytes_of filter.words) in
    grind (arith, nat_tests, common_steps, front_is)

-- files of one pair in front of the same bytes
pub same_file : (pair : List ℕ) (filter other : Filter) (rest more : List ℕ) → IsStored filter → IsStored other
    → file_of pair filter ++ rest ≡ file_of pair other ++ more → filter ≡ other
same_file pair filter other rest more stored held same =
    let seal = seal_of pair filter in
    let found = file_left (Some (file_of pair filter ++ rest)) (Some (bytes_of filter.words ++ (seal ++ rest))) (Some (seal ++ rest))
    filter.bits filter.probes pair filter.words other more held stored.bits stored.probes stored.is_filter.room.enough
    stored.is_filter.no_more (file_parts pair filter rest) refl (ap Some same) in
    let words : filter.words ≡ other.words = bytes_tell_words filter.words other.words stored.words held.words found.bytes in
    λ i. filter_of (found.bits i) (found.probes i) (words i)
