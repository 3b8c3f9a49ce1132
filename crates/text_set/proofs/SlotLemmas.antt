-- Tables of slots: what a search finds, and what a slot more changes.
use Rattle.text_set.proofs.Common.{ℕ, zero, suc, ◌+◌, ◌≤◌, ◌⊎◌, Bool, true, false, not, cond, ◌&&◌, ◌||◌, Some, None, List, [], ◌∷◌, ◌++◌, length, get_or, take, replicate, All, Contains, arith, sym, ap, ◌∙◌, subst, refl, length-append, bytes_eq, set, count_by, list_any, cases_eq, both_ways, false_from_ne_true, not-true, not-false, or_parts, and_parts, and_left, length-set, get_or-set_same, get_or-set_other, get_or_default, get_or_append_left, All-set, All-replicate, All-tail, All-head, list_any_none, list_any_more, Any-from_list_any, sum_by-replicate, sum_by-cons, sum_by-set, bytes_eq-Decides, common_steps, nat_tests, StandsAt, has, with_text, Slot, EMPTY, NOWHERE, AreFound, AreTakenUpTo, FirstRound, HoldsUpTo, IsRefilled, IsTable, free_count, home_of, is_taken, some_taken, stops, text_of, ◌≡◌, ◌-◌, ◌<◌, get_or-append_seam}
use Rattle.text_set.proofs.SetLemmas.{has_more}

-- ---- places, round from a home

pub up_to_weaker : (P Q : ℕ → Type 0) (n home place : ℕ) → ((j : ℕ) → P j → Q j) → HoldsUpTo P n home place → HoldsUpTo Q n home place
up_to_weaker P Q n home place more before = grind arith

-- ---- a slot more

any_set : {X : Type 0} (p : X → Bool) (xs : List X) (i : ℕ) (y d : X) → i < length xs → p (get_or xs i d) ≡ false
    → list_any p (set xs i y) ≡ (p y || list_any p xs)
any_set p [] i y d below not_there = absurd (omega arith)
any_set p (x ∷ xs) zero y d below not_there = grind arith
any_set p (x ∷ xs) (suc i) y d below not_there = grind (arith, any_set p xs i y d (omega arith) not_there)

any_same : {X : Type 0} (p q : X → Bool) (xs : List X) → All (λ x. p x ≡ q x) xs → list_any p xs ≡ list_any q xs
any_same p q [] same = refl
any_same p q (x ∷ xs) same = grind (arith, All-head (λ x. p x ≡ q x) x xs same, any_same p q xs (All-tail (λ x. p x ≡ q x) x xs same))

-- a slot that was free has a text now: all others are found as before, and its own where the search came to it
pub found_more : (slots : List Slot) (place : ℕ) (slot : Slot) → AreFound slots → place < length slots → is_taken slot ≡ true
    → AreTakenUpTo slots slot.tag place → AreFound (set slots place slot)
found_more slots place slot found within taken before = λ i below is.
    grind (arith, up_to_weaker, length-set, cases_eq, get_or-set_same, get_or-set_other)

-- there is one free slot less
pub free_less : (slots : List Slot) (place : ℕ) (slot : Slot) → place < length slots → is_taken (get_or slots place EMPTY) ≡ false
    → is_taken slot ≡ true
    → free_count (set slots place slot) + 1 ≡ free_count slots
free_less slots place slot within free taken =
    grind (arith, sum_by-set (λ s. cond (not (is_taken s)) 1 0) slots place slot EMPTY within)

none_counted : (p : Slot → Bool) (slots : List Slot) → All (λ s. p s ≡ false) slots → count_by p slots ≡ 0
none_counted p [] none = refl
none_counted p (slot ∷ slots) none =
    grind (arith, sum_by-cons (λ s. cond (p s) 1 0) slot slots, All-head (λ s. p s ≡ false) slot slots none, none_counted p slots (All-tail (λ s. p s ≡ false) slot slots none))

-- where no place is free, there are no free slots
pub none_free : (slots : List Slot) → ((j : ℕ) → j < length slots → not (is_taken (get_or slots j EMPTY)) ≡ false) → free_count slots ≡ 0
none_free slots none =
    none_counted (λ s. not (is_taken s)) slots
    (λ k d below. ap (λ s. not (is_taken s)) (get_or_default slots k d EMPTY below) ∙ none k below)

-- a slot passes more than before
pub some_more : (test : Slot → Bool) (slots : List Slot) (place : ℕ) (slot : Slot) → place < length slots
    → is_taken (get_or slots place EMPTY) ≡ false → is_taken slot ≡ true
    → some_taken test (set slots place slot) ≡ (test slot || some_taken test slots)
some_more test slots place slot within free taken = grind (arith, any_set (λ s. is_taken s && test s) slots place slot EMPTY within)

-- ---- what a search for a text finds

-- where a slot has the text, a search would end at one that is taken and has the text's tag
stops_somewhere : (tag : List ℕ → ℕ) (texts : List (List ℕ)) (slots : List Slot) (room : ℕ) → IsTable tag texts slots room
    → (text : List ℕ)
    → list_any (λ s. is_taken s && bytes_eq text (text_of texts s)) slots ≡ true
    → (k : ℕ) × (k < length slots) × (is_taken (get_or slots k EMPTY) ≡ true) × ((get_or slots k EMPTY).tag ≡ tag text)
    × (stops texts (tag text) text (get_or slots k EMPTY) ≡ true)
stops_somewhere tag texts slots room table text there = grind (arith, Any-from_list_any, get_or_default, and_parts, bytes_eq-Decides)

module _ {tag : List ℕ → ℕ} {texts : List (List ℕ)} {slots : List Slot} {room : ℕ} (table : IsTable tag texts slots room)
    (text : List ℕ) {place : ℕ}
    (first : FirstRound (stops texts (tag text) text) slots (home_of (length slots) (tag text)) (Some place))
    {slot : Slot} (there : slot ≡ get_or slots place slot) where
  at_place : get_or slots place EMPTY ≡ slot
  at_place = get_or_default slots place EMPTY slot first.0 ∙ sym there

  -- a search that ends at a slot with a text has found it
  pub stands_there : true ≡ is_taken slot → StandsAt texts text slot.place
  stands_there taken = grind (arith, at_place, bytes_eq-Decides)

  -- a search that ends at a free slot has passed no slot with the text, and there is none after it
  pub has_not_found : false ≡ is_taken slot → has texts text ≡ false
  has_not_found free =
      table.holds text ∙ false_from_ne_true _
      (λ somewhere.
      grind (arith, stops_somewhere tag texts slots room table text somewhere, at_place))

-- a search that ends nowhere has passed no slot with the text
pub has_nowhere : {tag : List ℕ → ℕ} {texts : List (List ℕ)} {slots : List Slot} {room : ℕ} (text : List ℕ)
    → IsTable tag texts slots room → FirstRound (stops texts (tag text) text) slots 0 None → has texts text ≡ false
has_nowhere {tag} {texts} {slots} {room} text table none =
    table.holds text ∙ false_from_ne_true _
    (λ there.
    let (k, below, taken, tagged, ends) = stops_somewhere tag texts slots room table text there in
    both_ways _ (none k below) ends)

-- ---- a text more

-- a text more changes none that was there
text_stays : (texts : List (List ℕ)) (text : List ℕ) (slot : Slot) → slot.place < length texts
    → text_of (texts ++ text ∷ []) slot ≡ text_of texts slot
text_stays texts text slot within = get_or_append_left texts (text ∷ []) [] slot.place within

module _ (tag : List ℕ → ℕ) (texts : List (List ℕ)) (slots : List Slot) (room : ℕ) (table : IsTable tag texts slots room) (text : List ℕ)
    (place : ℕ)
    (within : place < length slots) (free : is_taken (get_or slots place EMPTY) ≡ false) (slot : Slot) (taken : is_taken slot ≡ true)
    (is : slot ≡ record { tag = tag text; place = length texts }) where
  its_text : text_of (texts ++ text ∷ []) slot ≡ text
  its_text = grind (arith, common_steps, is)

  -- the table has the text, and those that it had
  holds_put : (other : List ℕ)
      → has (texts ++ text ∷ []) other ≡ some_taken (λ s. bytes_eq other (text_of (texts ++ text ∷ []) s)) (set slots place slot)
  holds_put other = grind (arith, any_same, text_stays, has_more, its_text, some_more)

  pub table_put : AreTakenUpTo slots (tag text) place → IsTable tag (texts ++ text ∷ []) (set slots place slot) (room - 1)
  table_put before = record {
    named = grind (arith, nat_tests, common_steps);
    tagged = grind (arith, nat_tests, common_steps);
    holds = holds_put;
    found = found_more slots place slot table.found within taken
        (subst (λ t. AreTakenUpTo slots t place) (sym (ap (λ s. s.tag) is)) before);
    roomy = omega (arith, table.roomy, free_less slots place slot within free taken);
  }

-- ---- a larger table

pub table_kept : (tag : List ℕ → ℕ) (texts : List (List ℕ)) (slots more : List Slot) (old room : ℕ) → IsTable tag texts slots old
    → IsRefilled slots room more → IsTable tag texts more room
table_kept tag texts slots more old room table refilled = grind arith

-- the first of the slots are in a larger table
pub record Refilling (slots : List Slot) (done count : ℕ) (more : List Slot) : Type 0 where
  pub found : AreFound more
  pub roomy : count ≤ done + free_count more
  pub kept : (test : Slot → Bool) → some_taken test more ≡ some_taken test (take done slots)
  pub among : All (λ slot. is_taken slot ≡ true → Contains slots slot) more

pub refilling_start : (slots : List Slot) (count : ℕ) → Refilling slots 0 count (replicate count EMPTY)
refilling_start slots count = grind (arith, nat_tests, common_steps, All-replicate, both_ways, sum_by-replicate, list_any_none, and_left)

module _ (slots : List Slot) (done count : ℕ) (more : List Slot) (before : Refilling slots done count more) (slot d : Slot)
    (below : done < length slots) (is : get_or slots done d ≡ slot) where
  pub refilling_past : is_taken slot ≡ false → Refilling slots (done + 1) count more
  refilling_past free = grind (arith, nat_tests, common_steps)

  pub refilling_put : (place : ℕ) → is_taken slot ≡ true
      → FirstRound (λ s. not (is_taken s)) more (home_of (length more) slot.tag) (Some place)
      → Refilling slots (done + 1) count (set more place slot)
  refilling_put place taken (within, free, passed) =
      let is_free : is_taken (get_or more place EMPTY) ≡ false = not-true _ free in
      record {
        found = grind (arith, found_more, up_to_weaker, not-false);
        roomy = omega (arith, before.roomy, free_less more place slot within is_free taken);
        kept = grind (arith, nat_tests, common_steps, some_more, list_any_more);
        among = All-set (λ s. is_taken s ≡ true → Contains slots s) more place slot
            (λ _. (done, below, get_or_default slots done slot d below ∙ is)) before.among;
      }

-- where no search for a text ends, there are no free slots
pub none_stops : (texts : List (List ℕ)) (text : List ℕ) (slots : List Slot) (tag : ℕ) → FirstRound (stops texts tag text) slots 0 None
    → free_count slots ≡ 0
none_stops texts text slots tag first = none_free slots (λ j below. (or_parts _ _ (first j below)).0)

-- the slot of a text behind the others
pub slot_made : (slot : Slot) (tag tag' place place' : ℕ) → slot ≡ record { tag = tag'; place = place' } → tag' ≡ tag → place' ≡ place
    → place' < NOWHERE
    → (slot ≡ record { tag = tag; place = place }) × (is_taken slot ≡ true)
slot_made slot tag tag' place place' made same_tag same_place below = grind (arith, nat_tests)

-- a text is put where a search for it ended at a free slot
pub table_more : {tag : List ℕ → ℕ} {texts : List (List ℕ)} {slots : List Slot} {room : ℕ} {text : List ℕ} {place : ℕ} {slot new : Slot}
    → IsTable tag texts slots room → FirstRound (stops texts (tag text) text) slots (home_of (length slots) (tag text)) (Some place)
    → slot ≡ get_or slots place slot → false ≡ is_taken slot
    → (new ≡ record { tag = tag text; place = length texts }) × (is_taken new ≡ true)
    → IsTable tag (texts ++ text ∷ []) (set slots place new) (room - 1)
table_more {tag} {texts} {slots} {room} {text} {place} {slot} {new} table first there free made =
    let free_there = ap is_taken (get_or_default slots place EMPTY slot first.0 ∙ sym there) ∙ sym free in
    let passed = up_to_weaker (λ j. stops texts (tag text) text (get_or slots j EMPTY) ≡ false) (λ j. is_taken (get_or slots j EMPTY) ≡ true)
    (length slots) (home_of (length slots) (tag text)) place (λ j goes_on. grind (arith, goes_on)) first.2 in
    table_put tag texts slots room table text place first.0 free_there new made.1 made.0 passed

-- a text that is there changes nothing, and one that is not stands behind the others
pub with_old : (texts : List (List ℕ)) (text : List ℕ) → has texts text ≡ true → with_text texts text ≡ texts
with_old texts text there = rw there

pub with_new : (texts : List (List ℕ)) (text : List ℕ) → has texts text ≡ false → with_text texts text ≡ texts ++ text ∷ []
with_new texts text new = rw new

pub stands_behind : (texts : List (List ℕ)) (text : List ℕ) → StandsAt (texts ++ text ∷ []) text (length texts)
stands_behind texts text = (omega (arith, length-append texts (text ∷ [])), get_or-append_seam texts text [] [])
