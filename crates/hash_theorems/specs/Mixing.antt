-- Texts that differ only in what is mixed into a state close together.
use Rattle.std.specs.Prelude.{◌≢◌, ℕ, ◌+◌, ◌/◌, List}
use Rattle.hash_laws.specs.DifferWithin.{DifferInOne}
use Rattle.hash_jenkins.specs.Lookup3.{lookup3_words}

-- they are in what Spooky adds between two mixes below 192 bytes: the first 16 bytes, or 32 bytes from byte 16, 48, 80 and so on
abbrev pub DifferInOneStretch : List ℕ → List ℕ → Type 0
DifferInOneStretch x y = DifferInOne (λ i. (i + 16) / 32) x y

-- the three words of lookup3 differ, from any two words
abbrev pub HaveOtherThree : List ℕ → List ℕ → Type 0
HaveOtherThree x y = (pc pb : ℕ) → lookup3_words pc pb x ≢ lookup3_words pc pb y
