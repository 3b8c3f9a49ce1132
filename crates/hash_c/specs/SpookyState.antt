-- What the state of a SpookyHash stands for that a caller in C keeps.
use Rattle.std.specs.Prelude.{ℕ, ◌≡◌, List}
use Rattle.hash_jenkins.specs.Spooky.{position}
use Rattle.hash_jenkins.specs.SpookyParts.{position_of, FitsBuffer, IsSettled}
use Rattle.hash_c.specs.declared.spooky.SpookyState.{SpookyState}
use Rattle.hash_c.specs.declared.spooky.Words.{Words}

abbrev pub mark : ℕ
mark = 0x5b39_d3a6_8cf0_714e

-- it has the mark, and what it keeps fits
abbrev pub IsUsable : SpookyState → Type 0
IsUsable state = (state.mark ≡ mark) × FitsBuffer state.parts

-- it has the mark, and stands behind the text under two seeds
pub record IsStateOf (state : SpookyState) (seed1 seed2 : ℕ) (text : List ℕ) : Type 0 where
  pub marked : state.mark ≡ mark
  pub settled : IsSettled state.parts
  pub there : position_of state.parts ≡ position seed1 seed2 text

abbrev pub AreZeros : Words → Type 0
AreZeros words = (words.first ≡ 0) × (words.second ≡ 0)
