-- How texts lie in a table of slots.
use Rattle.std.specs.Prelude.{ℕ, ◌≡◌, ◌-◌, ◌/◌, ◌%◌, ◌^◌, ◌<◌, ◌≤◌, ◌==◌, ◌&&◌, ◌||◌, Bool, true, false, not, Option, Some, None, List, [], length, bit_and, bit_xor, slice_index_or, All, Contains}
use Rattle.std.specs.List.{count_by, list_any}
use Rattle.std.specs.Str.{bytes_eq}
use Rattle.text_set.specs.Texts.{has}
use Rattle.text_set.specs.declared.slots.Slot.{Slot}
use Rattle.text_set.specs.declared.texts.Guess.{Guess}
use Rattle.text_set.specs.declared.slots.TheConstants.{NOWHERE, EMPTY}

-- whether a slot has a text
abbrev pub is_taken : Slot → Bool
is_taken slot = not (slot.place == NOWHERE)

-- the text of a slot
abbrev pub text_of : List (List ℕ) → Slot → List ℕ
text_of texts slot = slice_index_or texts slot.place []

-- 32 bits of a hash
abbrev pub tag_by : ℕ → ℕ
tag_by hash = bit_xor hash (hash / 2 ^ 32) % 2 ^ 32

-- the tag of a text, by a hasher as it is built
abbrev pub tag_under : {H : Type 0} → (write : H → List ℕ → H) (finish : H → ℕ) (start : H) → List ℕ → ℕ
tag_under write finish start text = tag_by (finish (write start text))

-- where the search for texts with a tag begins, among so many places
abbrev pub home_of : ℕ → ℕ → ℕ
home_of count tag = bit_and tag (count - 1)

-- the slot, if it has a text, has one of these
abbrev pub Names : List (List ℕ) → Slot → Type 0
Names texts slot = is_taken slot ≡ true → slot.place < length texts

-- whether the search for a text ends at the slot: it is free, or has this text under this tag
abbrev pub stops : List (List ℕ) → ℕ → List ℕ → Slot → Bool
stops texts tag text slot = not (is_taken slot) || ((slot.tag == tag) && bytes_eq text (text_of texts slot))

-- the first place in a range where a slot passes the test
abbrev pub FirstBetween : (Slot → Bool) → List Slot → ℕ → ℕ → Option ℕ → Type 0
FirstBetween test slots from to None = (j : ℕ) → from ≤ j → j < to → test (slice_index_or slots j EMPTY) ≡ false
FirstBetween test slots from to (Some i) = (from ≤ i) × (i < to) × (test (slice_index_or slots i EMPTY) ≡ true)
    × ((j : ℕ) → from ≤ j → j < i → test (slice_index_or slots j EMPTY) ≡ false)

-- what holds at each place that comes before another, round from a home
pub record HoldsUpTo (at : ℕ → Type 0) (count home place : ℕ) : Type 0 where
  pub near : (j : ℕ) → home ≤ j → j < place → at j
  pub to_the_end : place < home → (j : ℕ) → home ≤ j → j < count → at j
  pub from_the_start : place < home → (j : ℕ) → j < place → at j

-- the first place, round from a home, where a slot passes the test
abbrev pub FirstRound : (Slot → Bool) → List Slot → ℕ → Option ℕ → Type 0
FirstRound test slots home None = (j : ℕ) → j < length slots → test (slice_index_or slots j EMPTY) ≡ false
FirstRound test slots home (Some i) = (i < length slots) × (test (slice_index_or slots i EMPTY) ≡ true)
    × HoldsUpTo (λ j. test (slice_index_or slots j EMPTY) ≡ false) (length slots) home i

-- no slot that the search for a tag comes to before a place is free
abbrev pub AreTakenUpTo : List Slot → (tag place : ℕ) → Type 0
AreTakenUpTo slots tag place =
    HoldsUpTo (λ j. is_taken (slice_index_or slots j EMPTY) ≡ true) (length slots) (home_of (length slots) tag) place

-- each slot with a text is found
abbrev pub AreFound : List Slot → Type 0
AreFound slots = (i : ℕ) → i < length slots → is_taken (slice_index_or slots i EMPTY) ≡ true
    → AreTakenUpTo slots (slice_index_or slots i EMPTY).tag i

-- how many slots are free
abbrev pub free_count : List Slot → ℕ
free_count slots = count_by (λ slot. not (is_taken slot)) slots

-- the slot, if it has a text, has it under its tag
abbrev pub IsTagged : (List ℕ → ℕ) → List (List ℕ) → Slot → Type 0
IsTagged tag texts slot = is_taken slot ≡ true → slot.tag ≡ tag (text_of texts slot)

-- where a text stands at the place, it has the tag of this one
abbrev pub SharesTag : (List ℕ → ℕ) → List (List ℕ) → List ℕ → ℕ → Type 0
SharesTag tag texts text place = place < length texts → tag (slice_index_or texts place []) ≡ tag text

-- a guess where a text may stand: it has the tag of the text, and a text at the place has this tag too
pub record IsGuess (tag : List ℕ → ℕ) (texts : List (List ℕ)) (text : List ℕ) (guess : Guess) : Type 0 where
  pub tagged : guess.tag ≡ tag text
  pub place : SharesTag tag texts text guess.place

-- whether a slot with a text passes the test
abbrev pub some_taken : (Slot → Bool) → List Slot → Bool
some_taken test slots = list_any (λ slot. is_taken slot && test slot) slots

-- a table with just these texts, in which each is found, and which has so many free slots
pub record IsTable (tag : List ℕ → ℕ) (texts : List (List ℕ)) (slots : List Slot) (room : ℕ) : Type 0 where
  pub named : All (Names texts) slots
  pub tagged : All (IsTagged tag texts) slots
  pub holds : (other : List ℕ) → has texts other ≡ some_taken (λ slot. bytes_eq other (text_of texts slot)) slots
  pub found : AreFound slots
  pub roomy : room ≤ free_count slots

-- a table has the texts of another, and so many free slots more than that has slots
pub record IsRefilled (slots : List Slot) (room : ℕ) (more : List Slot) : Type 0 where
  pub found : AreFound more
  pub roomy : room ≤ free_count more
  pub kept : (test : Slot → Bool) → some_taken test more ≡ some_taken test slots
  pub among : All (λ slot. is_taken slot ≡ true → Contains slots slot) more
