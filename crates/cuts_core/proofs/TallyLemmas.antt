-- The chunks whose hash no chunk before them has, and one chunk more.
use Rattle.cuts_core.proofs.Common.{◌≡◌, ℕ, ◌+◌, ◌-◌, ◌==◌, ◌||◌, ◌&&◌, Bool, true, false, not, if◌then◌else◌, None, Result, Ok, Err, IfOk, List, [], ◌∷◌, ◌++◌, length, length-append, append-nil, arith, ap, refl, subst, sym, ◌∙◌, ap₂, nat_cmp, Cut, EndsFile, IsFileCut, Opening, given_of, is_whole, name_of, CountsChunks, CountsFile, IsCounted, sum_by, AreCut, all_given, bytes_of, firsts, numbers_of, tally_lines, list_any, Failure, TooMany, Cutting, Opens, Tally}
use Rattle.std.specs.BTreeSet.{contains}
use Rattle.std.proofs.lemmas.Grind.{flat_map-append}
use Rattle.std.proofs.lemmas.Bool.Decides.{nat_tests}
use Rattle.std.proofs.lemmas.List.{map-append}
use Rattle.std.proofs.lemmas.List.Elements.{All-push, filter-append}
use Rattle.std.proofs.lemmas.List.Folds.{list_all-append, list_any-append}
use Rattle.cuts_core.proofs.CutLemmas.{bytes_more}

-- a chunk if it comes first
abbrev new_one : (chunk : List ℕ) → (is_old : Bool) → List (List ℕ)
new_one chunk true = []
new_one chunk false = chunk ∷ []

module _ (hash : List ℕ → ℕ) where
  abbrev pub is_old : List (List ℕ) → List ℕ → Bool
  is_old given chunk = list_any (λ other. hash chunk == hash other) given

  pub firsts_more : (given : List (List ℕ)) (chunk : List ℕ) → firsts hash (given ++ chunk ∷ []) ≡ firsts hash given ++ new_one chunk (is_old given chunk)
  firsts_more [] chunk = refl
  firsts_more (first ∷ given) chunk =
      let test : List ℕ → Bool = λ other. not (hash other == hash first) in
      grind (arith, nat_tests, firsts_more given chunk, filter-append test (firsts hash given) (new_one chunk (is_old given chunk)))

  bytes_new : (given : List (List ℕ)) (chunk : List ℕ) (old : Bool)
      → bytes_of (given ++ new_one chunk old) ≡ bytes_of given + (if not old then length chunk else 0)
  bytes_new given chunk true = omega (arith, ap (λ list. bytes_of list) (append-nil given))
  bytes_new given chunk false = bytes_more given chunk

  -- one chunk more is counted
  pub counted_more : (given : List (List ℕ)) (chunk : List ℕ) (old new : Tally) (is_new : Bool) (number : ℕ) → IsCounted hash given old
      → number ≡ hash chunk → is_new ≡ not (contains nat_cmp old.hashes number)
      → ((other : ℕ) → contains nat_cmp new.hashes other ≡ (other == number || contains nat_cmp old.hashes other))
      → new.chunks ≡ old.chunks + 1 → new.bytes ≡ old.bytes + length chunk → new.first ≡ old.first + (if is_new then length chunk else 0)
      → IsCounted hash (given ++ chunk ∷ []) new
  counted_more given chunk old new is_new number so_far is new_is seen chunks bytes first =
      let fresh : is_new ≡ not (is_old given chunk) = new_is ∙ ap (λ n. not (contains nat_cmp old.hashes n)) is ∙ ap not (so_far.seen (hash chunk)) in
      record {
        chunks = omega (arith, chunks, so_far.chunks, length-append given (chunk ∷ []));
        bytes = bytes ∙ ap (λ n. n + length chunk) so_far.bytes ∙ sym (bytes_more given chunk);
        first = first ∙ ap₂ (λ (n : ℕ) (b : Bool). n + (if b then length chunk else 0)) so_far.first fresh
            ∙ sym (ap (λ list. bytes_of list) (firsts_more given chunk) ∙ bytes_new (firsts hash given) chunk (is_old given chunk));
        seen = λ other.
            let so_far_seen = so_far.seen other in
            let with_one = list_any-append (λ c. other == hash c) given (chunk ∷ []) in
            grind (arith, nat_tests, seen other, is, so_far_seen, with_one);
      }

-- what is counted stays counted with no chunk more
pub counts_none : (tally : Tally) → CountsChunks tally tally [] None
counts_none tally = (refl, λ none before is. subst (λ given. IsCounted (sum_by tally.kind) given tally) (sym (append-nil before)) is)

-- the chunks of a file that was read are counted
pub counted_file : (cuts : Cutting) (opens : Opening) (old new : Tally) (result : Result Bool (Failure TooMany))
    → EndsFile CountsChunks cuts opens old new result
    → IfOk result (CountsFile (sum_by old.kind) cuts opens old new)
counted_file cuts opens old new (Ok whole) (given, is_cut, takes) = (given, is_cut, (takes old [] (counts_none old)).1 refl)
counted_file cuts opens old new (Err fault) torn = tt

-- one file more
pub cut_more : (cuts : Cutting) (opens : Opens) (names names' : List (List ℕ)) (files : List Cut) (all : Bool) (file : Cut)
    → AreCut cuts opens names files all → IsFileCut cuts opens file → names ++ name_of file ∷ [] ≡ names'
    → AreCut cuts opens names' (files ++ file ∷ []) (all && is_whole file)
cut_more cuts opens names names' files all file so_far is more = record {
  names_are = map-append name_of files (file ∷ []) ∙ ap (λ ns. ns ++ name_of file ∷ []) so_far.names_are ∙ more;
  each = All-push (IsFileCut cuts opens) files file so_far.each is;
  all_is = grind (arith, so_far.all_is, list_all-append is_whole files (file ∷ []));
}

-- and its chunks
pub given_more : (files : List Cut) (file : Cut) → all_given (files ++ file ∷ []) ≡ all_given files ++ given_of file
given_more files file = flat_map-append given_of files (file ∷ []) ∙ ap (λ list. all_given files ++ list) (append-nil (given_of file))

-- the lines of the numbers that were counted
pub lines_counted : (hash : List ℕ → ℕ) (given : List (List ℕ)) (tally : Tally) → IsCounted hash given tally
    → numbers_of tally.chunks tally.bytes (tally.bytes - tally.first) ≡ tally_lines hash given
lines_counted hash given tally counted =
    ap (λ n. numbers_of n tally.bytes (tally.bytes - tally.first)) counted.chunks
    ∙ ap₂ (λ (bytes first : ℕ). numbers_of (length given) bytes (bytes - first)) counted.bytes counted.first
