-- Things that are told one after the other.
use Rattle.std.proofs.Common.{◌≡◌, ℕ, ◌+◌, ◌<◌, length, take, drop, get_or, arith, take-append-drop, Bool, true, ◌&&◌, List, [], ◌∷◌, ◌++◌, Option, map, refl, ap, ◌∙◌, flat_map, append_assoc, append-nil}
use Rattle.std.specs.Io.KnownBytes.{Appends, Keeps}
use Rattle.std.proofs.KnownBytes.{Appends-kept, Appends-nil, Appends-trans}
use Rattle.std.proofs.lemmas.List.{get_or-map, length-map, map-append, take_more}
use Rattle.std.proofs.lemmas.List.Elements.{All-nil, All-push}
use Rattle.streams.specs.Streams.{AppendsPart}
use Rattle.streams.proofs.StreamLemmas.{part_behind, part_whole}
use Rattle.cli.specs.Told.{AreTold, AreTornOff}
use Rattle.std.proofs.lemmas.Grind.{flat_map-append}
use Rattle.std.proofs.lemmas.List.Folds.{list_all-append}

-- one more of the names
pub names_more : {Y Z : Type 0} (now : Y → Z) (xs : List Y) (i : ℕ) (d : Y) → i < length xs
    → take (i + 1) (map now xs) ≡ take i (map now xs) ++ now (get_or xs i d) ∷ []
names_more now xs i d below =
    grind (arith, take_more (map now xs) i (now (get_or xs i d)), get_or-map now xs i d (now (get_or xs i d)) below, length-map xs now)

-- the others
pub names_rest : {Y : Type 0} (now : Y → List ℕ) (xs : List Y) (i : ℕ) (d : Y) → i < length xs
    → take i (map now xs) ++ (now (get_or xs i d) ∷ drop (i + 1) (map now xs)) ≡ map now xs
names_rest now xs i d below =
    grind (arith, append_assoc, names_more now xs i d below, take-append-drop (i + 1) (map now xs))

module _ {X : Type 0} (name : X → List ℕ) (Holds : X → Type 0) (out : X → List ℕ) (good : X → Bool) where
  pub told_start : (w : Option (List ℕ)) → AreTold name Holds out good [] [] w w true
  told_start w = record { names_are = refl; each = All-nil Holds; written_is = Appends-nil w; all_is = refl }

  -- one more, of names and a test that are so much longer
  pub told_next : (names names' : List (List ℕ)) (told : List X) (w w' w'' : Option (List ℕ)) (all all' : Bool) (x : X)
      → AreTold name Holds out good names told w w' all
      → Holds x → Appends w' w'' (out x) → names ++ name x ∷ [] ≡ names' → (all && good x) ≡ all'
      → AreTold name Holds out good names' (told ++ x ∷ []) w w'' all'
  told_next names names' told w w' w'' all all' x so_far holds appends more both = record {
    names_are = rw (map-append name told (x ∷ []), so_far.names_are) more;
    each = All-push Holds told x so_far.each holds;
    written_is = rw (flat_map-append out told (x ∷ []), append-nil (out x))
        (Appends-trans w w' w'' (flat_map out told) (out x) so_far.written_is appends);
    all_is = grind (arith, list_all-append good told (x ∷ []), so_far.all_is, both);
  }

  -- a beginning of the next was written
  pub torn_within : (names untold all_names : List (List ℕ)) (told : List X) (w w' w'' : Option (List ℕ)) (all : Bool) (x : X)
      → AreTold name Holds out good names told w w' all → Holds x
      → AppendsPart w' w'' (out x) → names ++ (name x ∷ untold) ≡ all_names → AreTornOff name Holds out good all_names w w''
  torn_within names untold all_names told w w' w'' all x so_far holds part rest = record {
    told = told ++ x ∷ [];
    untold = untold;
    names_are = rw (map-append name told (x ∷ []), so_far.names_are, append_assoc) rest;
    each = All-push Holds told x so_far.each holds;
    part_is = rw (flat_map-append out told (x ∷ []), append-nil (out x))
        (part_behind w w' w'' (flat_map out told) (out x) so_far.written_is part);
  }

  -- the same where the writer kept what was written
  pub torn_kept : (names untold all_names : List (List ℕ)) (told : List X) (w w' w'' : Option (List ℕ)) (all : Bool)
      → AreTold name Holds out good names told w w' all → Keeps w' w'' → names ++ untold ≡ all_names
      → AreTornOff name Holds out good all_names w w''
  torn_kept names untold all_names told w w' w'' all so_far kept rest = record {
    told = told;
    untold = untold;
    names_are = ap (λ ns. ns ++ untold) so_far.names_are ∙ rest;
    each = so_far.each;
    part_is = part_whole w w'' (flat_map out told) (Appends-kept w w' w'' (flat_map out told) so_far.written_is kept);
  }
