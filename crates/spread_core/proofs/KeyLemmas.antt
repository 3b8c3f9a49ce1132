-- The keys of a text that is read line by line.
use Rattle.spread_core.proofs.Common.{◌≡◌, ◌≢◌, ◌<◌, ◌+◌, ◌-◌, ℕ, Bool, true, false, cond, eqb, List, [], ◌∷◌, ◌++◌, Option, Some, None, IfSome, All, length, take, get_or, fold, refl, ap, sym, append-nil, ◌∙◌, arith, ends_with_byte, strip_last, take_through, Consumes, IsAtEnd, take_all, take_more, All-head, All-tail, All-push, All-same, fold-append, with_text, ReadsFixed, ReadsLine, ReadsLines, ReadsOne, TakesFixed, TakesKeys, TakesLines}
use Rattle.std.specs.Io.{StopsAt}
use Rattle.std.specs.List.{concat}
use Rattle.std.proofs.KnownBytes.{Consumes-trans}
use Rattle.std.proofs.lemmas.Bool.{eq-eqb, eqb-true, lt-ltb, and_from, false≢true}
use Rattle.std.proofs.lemmas.List.Folds.{concat-append}
use Rattle.text_set.specs.Lines.{IsNext, ReadsNext, ReadsNothing}
use Rattle.text_set.proofs.LineLemmas.{text_of_line, texts_of_line}
use Rattle.streams.proofs.RecordLemmas.{first_behind, first_both}

-- keys that were read, and behind them more
takes_both : {keys keys' keys'' : List (List ℕ)} {a b c : Option (List ℕ)} {text more : List ℕ} {read later : List (List ℕ)}
    → TakesKeys keys keys' a b text read → TakesKeys keys' keys'' b c more later → TakesKeys keys keys'' a c (text ++ more) (read ++ later)
takes_both {keys} {read = read} {later = later} first second = record {
  consumed = Consumes-trans _ _ _ _ _ first.consumed second.consumed;
  taken = second.taken ∙ ap (λ ks. fold with_text ks later) first.taken ∙ sym (fold-append with_text keys read later);
}

-- all that is left behind what was read
all_behind : (a b c : Option (List ℕ)) (text more : List ℕ) → Consumes a b text → Consumes b c more → IfSome b (λ bytes. bytes ≡ more)
    → IfSome a (λ bytes. bytes ≡ text ++ more)
all_behind None b c text more first second all = tt
all_behind (Some x) None c text more first second all = absurd first
all_behind (Some x) (Some y) c text more first second all = first ∙ ap (λ l. text ++ l) all

module _ (eol : ℕ) where
  -- a line is what stands before its last byte, and that
  line_parts : (line : List ℕ) → 0 < length line → line ≡ take (length line - 1) line ++ get_or line (length line - 1) 0 ∷ []
  line_parts line some =
      sym (take_all (length line - 1 + 1) line (omega arith)) ∙ take_more line (length line - 1) 0 (omega arith)

  -- a line with no end at its last byte has none
  bare_line : (line : List ℕ) → StopsAt line eol → ends_with_byte eol line ≡ false → 0 < length line → All (λ x. x ≢ eol) line
  bare_line line stops bare_end some =
      All-same (λ x. x ≢ eol) line _ (line_parts line some)
      (All-push (λ x. x ≢ eol) (take (length line - 1) line) (get_or line (length line - 1) 0) stops
      (λ same. false≢true (sym bare_end ∙ ends same)))
    where
      ends : get_or line (length line - 1) 0 ≡ eol → ends_with_byte eol line ≡ true
      ends same =
          and_from _ _ (lt-ltb 0 (length line) some) (eq-eqb (get_or line (length line - 1) 0) eol same)

  -- what is taken through an end that is not there is all
  through_bare : (bytes : List ℕ) → All (λ x. x ≢ eol) (take_through eol bytes) → take_through eol bytes ≡ bytes
  through_bare [] bare = refl
  through_bare (x ∷ bytes) bare = at (eqb x eol) refl (through_bare bytes)
    where
      at : (b : Bool) → eqb x eol ≡ b → (All (λ x. x ≢ eol) (take_through eol bytes) → take_through eol bytes ≡ bytes)
          → take_through eol (x ∷ bytes) ≡ x ∷ bytes
      at true is more =
          let taken : take_through eol (x ∷ bytes) ≡ x ∷ [] = ap (λ b. cond b (x ∷ []) (x ∷ take_through eol bytes)) is in
          absurd (All-head (λ y. y ≢ eol) x [] (All-same (λ y. y ≢ eol) (x ∷ []) _ (sym taken) bare) (eqb-true x eol is))
      at false is more =
          let taken : take_through eol (x ∷ bytes) ≡ x ∷ take_through eol bytes =
          ap (λ b. cond b (x ∷ []) (x ∷ take_through eol bytes)) is in
          taken ∙ ap (λ l. x ∷ l)
          (more (All-tail (λ y. y ≢ eol) x _ (All-same (λ y. y ≢ eol) (x ∷ take_through eol bytes) _ (sym taken) bare)))

  -- a read that brought a line with no end brought all
  pub all_read : (left : Option (List ℕ)) (line : List ℕ) → IfSome left (λ bytes. line ≡ take_through eol bytes) → StopsAt line eol
      → ends_with_byte eol line ≡ false → IfSome left (λ bytes. bytes ≡ line)
  all_read None line is stops bare_end = tt
  all_read (Some bytes) [] is stops bare_end =
      sym (through_bare bytes (All-same (λ x. x ≢ eol) (take_through eol bytes) [] (sym is) (λ k d below. absurd (omega arith)))) ∙ sym is
  all_read (Some bytes) (x ∷ line) is stops bare_end =
      sym (through_bare bytes (All-same (λ y. y ≢ eol) (take_through eol bytes) (x ∷ line) (sym is)
      (bare_line (x ∷ line) stops bare_end (omega arith)))) ∙ sym is

  -- what comes of a line, whether or not it has its end
  pub takes_line : (keys keys' : List (List ℕ)) (left left' : Option (List ℕ)) (line : List ℕ) → ReadsNext eol left left' line
      → keys' ≡ with_text keys (strip_last eol line) → (ended : Bool) → ended ≡ ends_with_byte eol line
      → ReadsLine eol keys keys' left left' ended
  takes_line keys keys' left left' line read is ended told = at ended told
    where
      through : (left : Option (List ℕ)) → IsNext eol left line left' → IfSome left (λ bytes. line ≡ take_through eol bytes)
      through None next = tt
      through (Some bytes) next = next.0

      takes : TakesKeys keys keys' left left' line (strip_last eol line ∷ [])
      takes = record { consumed = read.consumed; taken = is }

      at : (ended : Bool) → ended ≡ ends_with_byte eol line → ReadsLine eol keys keys' left left' ended
      at true told = (line, strip_last eol line, takes, record { stay = λ later. texts_of_line eol line later read.stops (sym told) })
      at false told = (
        line,
        record {
          takes = rw (text_of_line eol line read.stops read.some) takes;
          all = all_read left line (through left read.next) read.stops (sym told);
        },
      )

  -- nothing was left
  pub takes_nothing : (keys : List (List ℕ)) (left left' : Option (List ℕ)) → ReadsNothing left left'
      → ReadsLine eol keys keys left left' false
  takes_nothing keys left left' read = ([], record { takes = record { consumed = read.consumed; taken = refl }; all = all left read.end })
    where
      all : (left : Option (List ℕ)) → IsAtEnd left → IfSome left (λ bytes. bytes ≡ [])
      all None end = tt
      all (Some bytes) end = end

  -- whole lines and behind them one more, or the last
  pub goes_on : (keys keys' keys'' : List (List ℕ)) (a b c : Option (List ℕ)) → TakesLines eol keys keys' a b
      → (ended : Bool) → ended ≡ true → ReadsLine eol keys' keys'' b c ended → TakesLines eol keys keys'' a c
  goes_on keys keys' keys'' a b c (text, read, first, whole) true is (more, key, second, ends) =
      (text ++ more, read ++ key ∷ [], takes_both first second, first_both (first_behind more whole) ends)
  goes_on keys keys' keys'' a b c before false is second = absurd (false≢true is)

  pub ends_all : (keys keys' keys'' : List (List ℕ)) (a b c : Option (List ℕ)) → TakesLines eol keys keys' a b
      → (ended : Bool) → ended ≡ false → ReadsLine eol keys' keys'' b c ended → ReadsLines eol keys keys'' a c
  ends_all keys keys' keys'' a b c before true is second = absurd (false≢true (sym is))
  ends_all keys keys' keys'' a b c (text, read, first, whole) false is (more, second) = (
    text ++ more,
    record {
      takes = rw (whole.stay more) (takes_both first second.takes);
      all = all_behind a b c text more first.consumed second.takes.consumed second.all;
    },
  )

-- ---- keys of so many bytes

-- keys of so many bytes and behind them one more, or all
pub fixed_more : (width : ℕ) (keys keys' keys'' : List (List ℕ)) (a b c : Option (List ℕ)) → TakesFixed width keys keys' a b
    → (is_one : Bool) → is_one ≡ true → ReadsOne width keys' keys'' b c is_one → TakesFixed width keys keys'' a c
fixed_more width keys keys' keys'' a b c (read, first, wide) true is (key, second, long) = (
  read ++ key ∷ [],
  rw (concat-append, append-nil) (takes_both first second),
  All-push (λ k. length k ≡ width) read key wide long,
)
fixed_more width keys keys' keys'' a b c before false is second = absurd (false≢true is)

pub fixed_all : (width : ℕ) (keys keys' keys'' : List (List ℕ)) (a b c : Option (List ℕ)) → TakesFixed width keys keys' a b
    → (is_one : Bool) → is_one ≡ false → ReadsOne width keys' keys'' b c is_one → ReadsFixed width keys keys'' a c
fixed_all width keys keys' keys'' a b c before true is second = absurd (false≢true (sym is))
fixed_all width keys keys' keys'' a b c (read, first, wide) false is second = (
  read,
  record {
    takes = record {
      consumed = rw append-nil at (Consumes-trans a b c (concat read) [] first.consumed second.takes.consumed);
      taken = second.takes.taken ∙ first.taken;
    };
    all = rw append-nil at (all_behind a b c (concat read) [] first.consumed second.takes.consumed second.all);
  },
  wide,
)
