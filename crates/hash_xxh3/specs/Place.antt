-- Where a hasher of XXH3 stands that keeps the numbers of a place.
use Rattle.std.specs.Prelude.{ℕ, ◌≡◌, ◌≢◌, ◌<◌, ◌≤◌, List, nat_eq, take, if◌then◌else◌}
use Rattle.hash_xxh3.specs.Streaming.{Position, Short, advanced, position}
use Rattle.hash_xxh3.specs.declared.place.Xxh3Place.{Xxh3Place}

abbrev pub place_of : Xxh3Place → Position
place_of p =
    if nat_eq p.long 0 then Short p.seed (take p.kept p.buffer)
    else advanced p.seed (record { words = p.words; stripe = p.stripe }) p.length (take p.kept p.buffer)

-- as much as a hasher keeps of a longer text
pub record FitsLong (p : Xxh3Place) : Type 0 where
  pub some : 65 ≤ p.kept
  pub few : p.kept ≤ 256
  pub block : p.stripe < 16

-- as much as a hasher keeps
pub record Fits (p : Xxh3Place) : Type 0 where
  pub short : p.long ≡ 0 → p.kept < 241
  pub long : p.long ≢ 0 → FitsLong p

-- a hasher keeps so much, and stands behind the text under the seed
pub record StandsBehind (p : Xxh3Place) (seed : ℕ) (text : List ℕ) : Type 0 where
  pub fits : Fits p
  pub there : place_of p ≡ position seed text
