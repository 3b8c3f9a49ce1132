-- Laws of the rounds: their lists are well formed, they keep words, and different words stay different.
use Rattle.hash_rounds.proofs.Common.{◌≡◌, ℕ, ◌^◌, ◌<◌, List, [], length, refl, AllByRecursion, All-from_recursion, Step, AreSteps, apply, AreWords-at}
use Rattle.hash_rounds.specs.Rounds as rounds
pub use Rattle.hash_rounds.proofs.StepLemmas.{AreNWords}
use Rattle.hash_rounds.proofs.StepLemmas.{steps-in}

pub spooky_mix-steps : AreSteps 64 12 12 rounds.spooky_mix_steps
unfolding rounds.spooky_mix_steps
spooky_mix-steps = refl

-- the last third of the long form reads no data
pub spooky_end_partial-steps : AreSteps 64 12 0 rounds.spooky_end_partial_steps
unfolding rounds.spooky_end_partial_steps
spooky_end_partial-steps = refl

pub short_mix-steps : AreSteps 64 4 0 rounds.short_mix_steps
unfolding rounds.short_mix_steps
short_mix-steps = refl

pub short_end-steps : AreSteps 64 4 0 rounds.short_end_steps
unfolding rounds.short_end_steps
short_end-steps = refl

-- ---- n words of w bits

abbrev pub AreFourWords : List ℕ → Type 0
AreFourWords = AreNWords 64 4

-- from a bound of each word
pub words-listed : (w : ℕ) (s : List ℕ) → AllByRecursion (λ x. x < 2 ^ w) s → AreNWords w (length s) s
words-listed w s each = (refl, AreWords-at w s (All-from_recursion (λ x. x < 2 ^ w) s each))

-- steps keep words, whatever their data
pub stepped : (w n m : ℕ) (d : List ℕ) (ts : List Step) → AreSteps w n m ts → (s : List ℕ) → AreNWords w n s
    → AreNWords w n (apply w ts d s)
stepped = steps-in

pub stepped-AreFourWords : (h : List ℕ) → AreFourWords h → (steps : List Step) → AreSteps 64 4 0 steps
    → AreFourWords (apply 64 steps [] h)
stepped-AreFourWords h h_in steps are = stepped 64 4 0 [] steps are h h_in
