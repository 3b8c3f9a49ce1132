-- Texts that are written in order, with how often each came.
use Rattle.dedup_core.proofs.Common.{◌≡◌, ℕ, ◌+◌, ◌<◌, List, [], ◌∷◌, ◌++◌, length, get_or, drop, map, ap, refl, append_assoc, drop_more, flat_map, Tallies, shown, told, rules}
use Rattle.dedup_core.specs.declared.tally.Which.{Which}

module _ (eol : ℕ) (which : Which) where
  -- what is written of texts that came so often
  abbrev pub listed : (seen : List (List ℕ)) (times : List ℕ) → List ℕ
  listed [] times = []
  listed (text ∷ seen) [] = []
  listed (text ∷ seen) (count ∷ times) = shown eol which count text ++ listed seen times

  listed_map : (count : List ℕ → ℕ) (seen : List (List ℕ))
      → listed seen (map count seen) ≡ flat_map (λ text. shown eol which (count text) text) seen
  listed_map count [] = refl
  listed_map count (text ∷ seen) = ap (λ l. shown eol which (count text) text ++ l) (listed_map count seen)

  pub listed_told : (ls seen : List (List ℕ)) (times : List ℕ) → Tallies eol ls seen times → listed seen times ≡ told eol which ls
  listed_told ls seen times now = rw (now.counts, ← now.places) (listed_map _ seen)

  -- one text more is written
  pub listed_more : (seen : List (List ℕ)) (times : List ℕ) (i : ℕ) (part out text all : List ℕ) → i < length seen → i < length times
      → text ≡ get_or seen i [] → out ≡ shown eol which (get_or times i 0) text → part ++ listed (drop i seen) (drop i times) ≡ all
      → (part ++ out) ++ listed (drop (i + 1) seen) (drop (i + 1) times) ≡ all
  listed_more seen times i part out text all below below' text_is out_is is = search (rules, drop_more, append_assoc)
