-- What a list that passed tells of a file is so.
use Rattle.hashsum_core.proofs.Common.{◌≡◌, inl, inr, ℕ, suc, zero-lt-suc, ◌<◌, Bool, true, false, if◌then◌else◌, List, [], ◌∷◌, length, map, Option, Some, None, Result, Ok, Err, Contains, sym, ap, ◌∙◌, subst, arith, slice_index_or, nat_tests, false≢true, get_or-map, length-map, Sum, AreTags, IsTag, Tells, lines_by, Opens, is_named, kind_of, find, is_itself, is_skipped, takes_sfv, verdict_on, IsLineCheck, bare, AreLines, taken, Checking, fails, HasHash, HasPassed, LineTells, ListTells, SumsFile, LineCheck, Unhashed, Unopened, name_in, kinds, sum_under, rules, common_steps}
use Rattle.hash_lines.specs.declared.parse.HashLine.{HashLine}
use Rattle.hash_lines.proofs.OneLemmas.{line_one}
use Rattle.hashsum_core.specs.declared.check.LineCheck.TheVariants.{Skipped, Improper, Checked}
use Rattle.hashsum_core.specs.declared.check.Verdict.{Verdict}
use Rattle.hashsum_core.specs.declared.sum.Unsummed.{Unsummed}
use Rattle.hashsum_core.proofs.AskedLemmas.{only_one}
use Rattle.hashsum_core.proofs.NameLemmas.{some_same}

module _ (kinds : List Sum) (checking : Checking) (opens : Opens) where
  -- a verdict that does not fail its list
  of_came : (entry : HashLine) (kind : Sum) (name : List ℕ) (number : ℕ) (came : Result ℕ Unsummed)
      → fails checking.strict (Checked entry (verdict_on checking.ignore_missing number came)) ≡ false
      → SumsFile (opens name) (sum_under checking.keys kind) came → HasHash checking opens kind name number
  of_came entry kind name number (Ok found) well (held, can, is) = grind (arith, nat_tests, common_steps)
  of_came entry kind name number (Err (Unopened error)) well cannot = grind (arith, nat_tests, common_steps)
  of_came entry kind name number (Err (Unhashed why)) well cannot = absurd (false≢true (sym well))

  -- a line that tells this and does not fail its list
  module _ (are : AreTags kinds checking.kind) (list : List ℕ) (kind : Sum) (name : List ℕ) (number : ℕ)
      (of_another : is_itself list name ≡ false) where
    of_checked : (line : List ℕ) (entry : HashLine) (verdict : Verdict) → Tells kinds checking.kind kind name number line
        → IsLineCheck kinds checking opens list line (Checked entry verdict) → fails checking.strict (Checked entry verdict) ≡ false
        → HasHash checking opens kind name number
    of_checked line entry verdict tells (unskipped, inr (none, so), other, by) well = absurd (none kind name number tells)
    of_checked line entry verdict tells (unskipped, inl too, other, inl (lacks, unkeyed)) well =
        absurd (false≢true (sym well ∙ ap (λ v. fails checking.strict (Checked entry v)) unkeyed))
    of_checked line entry verdict tells (unskipped, inl too, other, inr (has, (came, sums, is))) well =
        let (kinds_are, names_are, numbers_are) =
        line_one kinds checking.kind are kind entry.kind name entry.name.items number entry.number line tells too in
        search (rules, of_came)

    of_line : (line : List ℕ) (came : LineCheck) → Tells kinds checking.kind kind name number line → is_skipped (takes_sfv checking.kind list) line ≡ false
        → IsLineCheck kinds checking opens list line came → fails checking.strict came ≡ false → HasHash checking opens kind name number
    of_line line Skipped tells no_comment skipped well = absurd (false≢true (sym no_comment ∙ skipped))
    of_line line Improper tells no_comment (unskipped, inl none) well = absurd (none.0 kind name number tells)
    of_line line Improper tells no_comment (unskipped, inr (other, more, count, inl too, itself)) well =
        let same = line_one kinds checking.kind are kind other name more number count line tells too in
        absurd (false≢true (sym of_another ∙ ap (is_itself list) same.1 ∙ itself))
    of_line line Improper tells no_comment (unskipped, inr (other, more, count, inr (none, so), itself)) well =
        absurd (none kind name number tells)
    of_line line (Checked entry verdict) tells no_comment came well = of_checked line entry verdict tells came well

  -- what a line that was read of a list tells that passed
  pub line_is_so : AreTags kinds checking.kind → (list line : List ℕ) (kind : Sum) (name : List ℕ) (number : ℕ)
      → (passed : HasPassed kinds checking opens list) → Contains (map (λ line. line.0) passed.lines) line
      → LineTells kinds checking list line kind name number → HasHash checking opens kind name number
  line_is_so are list read kind name number passed (k, within, is) told =
      let line : List ℕ × LineCheck = slice_index_or passed.lines k (read, Skipped) in
      let below : k < length passed.lines = omega (arith, within, length-map passed.lines (λ (l : List ℕ × LineCheck). l.0)) in
      let is_line : read ≡ line.0 = sym is ∙ get_or-map (λ (l : List ℕ × LineCheck). l.0) passed.lines k (read, Skipped) read below in
      let bare_is : bare read ≡ bare line.0 = ap bare is_line in
      of_line are list kind name number told.of_another (bare line.0) line.1
      (subst (λ l. Tells kinds checking.kind kind name number l) bare_is told.tells)
      (subst (λ l. is_skipped (takes_sfv checking.kind list) l ≡ false) bare_is told.no_comment) (passed.came k (read, Skipped) below)
      (passed.none_fails k (read, Skipped) below)

  -- what a list that passed tells
  pub told_is_so : AreTags kinds checking.kind → (list : List ℕ) (kind : Sum) (name : List ℕ) (number : ℕ)
      → HasPassed kinds checking opens list → ListTells kinds checking opens list kind name number
      → HasHash checking opens kind name number
  told_is_so are list kind name number passed told =
      let are_lines : map (λ line. line.0) passed.lines ≡ lines_by 10 told.text =
      subst (λ held. AreLines held (map (λ line. line.0) passed.lines)) (told.holds passed.held passed.opened) passed.are_lines in
      line_is_so are list told.line kind name number passed (subst (λ ls. Contains ls told.line) (sym are_lines) told.is_line) told.tells

-- of the kinds that can be told, the one that is taken alone has a tag too
pub taken_are_tags : (checking : Checking) → AreTags (kinds true) checking.kind → Contains (kinds true) checking.kind
    → AreTags (taken checking) checking.kind
taken_are_tags checking are has = at checking.only
  where
    at : (b : Bool) → AreTags (if b then checking.kind ∷ [] else kinds true) checking.kind
    at false = are
    at true = record {
      each = λ other inside. subst (λ (k : Sum). IsTag (name_in k)) (sym (only_one checking.kind other inside)) (are.each checking.kind has);
      apart = λ other more inside too same. only_one checking.kind other inside ∙ sym (only_one checking.kind more too);
    }

-- the kind of a name, or the first, is among them
kind_found : (p : Sum → Bool) (kinds : List Sum) (kind : Sum) → find p kinds ≡ Some kind → Contains kinds kind
kind_found p [] kind none = cc
kind_found p (first ∷ more) kind is = at (p first) is (kind_found p more kind)
  where
    at : (b : Bool) → (if b then Some first else find p more) ≡ Some kind → (find p more ≡ Some kind → Contains more kind)
        → Contains (first ∷ more) kind
    at true same later = (0, zero-lt-suc (length more), some_same same)
    at false rest later = let (k, below, there) = later rest in (suc k, omega (arith, below), there)

pub kind_is_there : (kinds : List Sum) (name : Option (List ℕ)) (kind : Sum) → kind_of kinds name ≡ Some kind → Contains kinds kind
kind_is_there [] None kind none = cc
kind_is_there (first ∷ more) None kind is = (0, zero-lt-suc (length more), some_same is)
kind_is_there kinds (Some name) kind is = kind_found (λ k. is_named name (name_in k)) kinds kind is
