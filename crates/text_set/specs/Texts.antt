-- Texts of which each stands once.
use Rattle.std.specs.Prelude.{ℕ, ◌≡◌, ◌-◌, ◌^◌, ◌<◌, ◌≤◌, ◌++◌, ⊤, if◌then◌else◌, Bool, not, List, [], ◌∷◌, Result, IfOk, IfErr, OnOk, OnErr, length, slice_index_or}
use Rattle.std.specs.List.{list_any}
use Rattle.std.specs.Str.{bytes_eq}
use Rattle.text_set.specs.declared.texts.Full.{Full}
use Rattle.text_set.specs.declared.texts.Full.TheVariants as why
use Rattle.text_set.specs.declared.texts.Seen.{Seen}

-- a set: its texts in the order in which they came, and its hasher
pub record Set (S : Type 0) : Type 0 where
  pub texts : List (List ℕ)
  pub hasher : S

-- whether a text is among these
abbrev pub has : List (List ℕ) → List ℕ → Bool
has texts text = list_any (bytes_eq text) texts

-- these texts and behind them another, unless they have it
abbrev pub with_text : List (List ℕ) → List ℕ → List (List ℕ)
with_text texts text = if has texts text then texts else texts ++ text ∷ []

-- the text stands at this place
abbrev pub StandsAt : List (List ℕ) → List ℕ → ℕ → Type 0
StandsAt texts text place = (place < length texts) × (slice_index_or texts place [] ≡ text)

-- no text stands at two places
abbrev pub EachOnce : List (List ℕ) → Type 0
EachOnce texts = (i k : ℕ) → i < length texts → k < length texts → slice_index_or texts i [] ≡ slice_index_or texts k [] → i ≡ k

-- there are as many texts as a set has at most, where that is why
abbrev pub IsFullOnlyAt : List (List ℕ) → Full → Type 0
IsFullOnlyAt texts why.NoMemory = ⊤
IsFullOnlyAt texts why.TooManyTexts = 2 ^ 32 - 1 ≤ length texts

-- a set that is to have a text: it has it now, at that place, behind the others where it is new; or it is as it was, for a reason that is so
pub record Sees {S E : Type 0} (is_so : List (List ℕ) → E → Type 0) (before after : Set S) (text : List ℕ) (result : Result Seen E) : Type 0 where
  pub new : IfOk result (λ seen. seen.is_new ≡ not (has before.texts text))
  pub texts : OnOk result (after.texts ≡ with_text before.texts text)
  pub place : IfOk result (λ seen. StandsAt after.texts text seen.place)
  pub hasher : after.hasher ≡ before.hasher
  pub kept : OnErr result (after ≡ before)
  pub full : IfErr result (is_so before.texts)
