-- The lines of chunks, one after the other.
use Rattle.cuts_core.proofs.Common.{◌≡◌, ℕ, ◌+◌, Bool, List, [], ◌∷◌, ◌++◌, Option, Some, None, Result, Ok, Err, length, length-append, append_assoc, append-nil, arith, ap, subst, sym, ◌∙◌, EndsFile, one, AreListed, EndsLines, chunk_line, chunk_lines, Sum, concat, Failure, TooMany, Cutting, AppendsPart, Taken, Appends, part_behind, part_whole, Opens}
use Rattle.std.proofs.KnownBytes.{Appends-nil, Appends-trans}
use Rattle.cuts_core.proofs.CutLemmas.{bytes_more}

module _ (kind : Sum) (name : List ℕ) where
  -- the lines of some chunks and of more
  pub lines_more : (place : ℕ) (given more : List (List ℕ))
      → chunk_lines kind name place (given ++ more) ≡ chunk_lines kind name place given ++ chunk_lines kind name (place + length (concat given)) more
  lines_more place [] more = ap (λ n. chunk_lines kind name n more) (omega arith)
  lines_more place (chunk ∷ given) more =
      let far : place + length chunk + length (concat given) ≡ place + length (chunk ++ concat given) =
      omega (arith, length-append chunk (concat given)) in
      ap (λ lines. chunk_line kind name place chunk ++ lines) (lines_more (place + length chunk) given more)
      ∙ sym (append_assoc (chunk_line kind name place chunk) (chunk_lines kind name (place + length chunk) given)
      (chunk_lines kind name (place + length chunk + length (concat given)) more))
      ∙ ap (λ n. chunk_line kind name place chunk ++ chunk_lines kind name (place + length chunk) given ++ chunk_lines kind name n more) far

  -- and of one more
  line_more : (place to : ℕ) (given : List (List ℕ)) (chunk : List ℕ) → to ≡ place + length (concat given)
      → chunk_lines kind name place given ++ chunk_line kind name to chunk ≡ chunk_lines kind name place (given ++ chunk ∷ [])
  line_more place to given chunk is =
      ap (λ n. chunk_lines kind name place given ++ chunk_line kind name n chunk) is
      ∙ ap (λ line. chunk_lines kind name place given ++ line) (sym (append-nil (chunk_line kind name (place + length (concat given)) chunk)))
      ∙ sym (lines_more place given (chunk ∷ []))

  -- one more line was written
  pub listed_more : (from to to' : ℕ) (w w' w'' : Option (List ℕ)) (given : List (List ℕ)) (chunk : List ℕ)
      → AreListed kind name from to w w' given None → to' ≡ to + length chunk → Appends w' w'' (chunk_line kind name to chunk)
      → AreListed kind name from to' w w'' (given ++ chunk ∷ []) None
  listed_more from to to' w w' w'' given chunk so_far next line = (
    omega (arith, so_far.0, next, bytes_more given chunk),
    subst (Appends w w'') (line_more from to given chunk so_far.0)
        (Appends-trans w w' w'' (chunk_lines kind name from given) (chunk_line kind name to chunk) so_far.1 line),
  )

  -- a part of one more was written
  pub listed_part : (from to to' : ℕ) (w w' w'' : Option (List ℕ)) (given : List (List ℕ)) (chunk : List ℕ)
      → AreListed kind name from to w w' given None → AppendsPart w' w'' (chunk_line kind name to chunk)
      → AreListed kind name from to' w w'' (given ++ []) (Some chunk)
  listed_part from to to' w w' w'' given chunk so_far part =
      subst (λ list. AppendsPart w w'' (chunk_lines kind name from (list ++ chunk ∷ []))) (sym (append-nil given))
      (subst (AppendsPart w w'') (line_more from to given chunk so_far.0)
      (part_behind w w' w'' (chunk_lines kind name from given) (chunk_line kind name to chunk) so_far.1 part))

  -- no line was written yet
  pub listed_none : (from : ℕ) (w : Option (List ℕ)) → AreListed kind name from from w w [] None
  listed_none from w = (omega arith, Appends-nil w)

  -- what was written is a beginning of the lines with that of a refused chunk
  pub listed_torn : (from to : ℕ) (w w' : Option (List ℕ)) (given : List (List ℕ)) (refused : Option (List ℕ))
      → AreListed kind name from to w w' given refused → AppendsPart w w' (chunk_lines kind name from (given ++ one refused))
  listed_torn from to w w' given None listed =
      subst (λ list. AppendsPart w w' (chunk_lines kind name from list)) (sym (append-nil given))
      (part_whole w w' (chunk_lines kind name from given) listed.1)
  listed_torn from to w w' given (Some chunk) listed = listed

-- the lines of a file, by what a sink was given that lists them
pub ends_lines : {S : Type 0} (taken : Taken S) (kind : Sum) (cuts : Cutting) (opens : Opens) (name : List ℕ) (old new : S) (w w' : Option (List ℕ))
    (to : ℕ) → taken old old [] None
    → ((given : List (List ℕ)) (refused : Option (List ℕ)) → taken old new given refused → AreListed kind name 0 to w w' given refused)
    → (result : Result Bool (Failure TooMany)) → EndsFile taken cuts (opens name) old new result → EndsLines kind cuts opens name w w' result
ends_lines taken kind cuts opens name old new w w' to start listed (Ok whole) (given, is_cut, takes) =
    (given, is_cut, (listed given None (takes old [] start)).1)
ends_lines taken kind cuts opens name old new w w' to start listed (Err fault) torn = (
  torn.given,
  torn.refused,
  torn.torn,
  torn.why,
  listed_torn kind name 0 to w w' torn.given torn.refused (listed torn.given torn.refused (torn.takes old [] start)),
)
