-- What a run writes of things that come one after the other.
use Rattle.std.specs.Prelude.{ℕ, ◌≡◌, ◌++◌, Bool, List, Option, map, All}
use Rattle.std.specs.List.{flat_map, list_all}
use Rattle.std.specs.Io.KnownBytes.{Appends}
use Rattle.streams.specs.Streams.{AppendsPart}

module _ {X : Type 0} (name : X → List ℕ) (Holds : X → Type 0) (out : X → List ℕ) (good : X → Bool) where
  -- this came of the things of these names, what is due of each was written, and whether all are good
  pub record AreTold (names : List (List ℕ)) (told : List X) (written written' : Option (List ℕ)) (all : Bool) : Type 0 where
    pub names_are : map name told ≡ names
    pub each : All Holds told
    pub written_is : Appends written written' (flat_map out told)
    pub all_is : all ≡ list_all good told

  -- this came of the first things of these names, and a beginning of what is due of them was written
  pub record AreTornOff (names : List (List ℕ)) (written written' : Option (List ℕ)) : Type 0 where
    pub told : List X
    pub untold : List (List ℕ)
    pub names_are : map name told ++ untold ≡ names
    pub each : All Holds told
    pub part_is : AppendsPart written written' (flat_map out told)
