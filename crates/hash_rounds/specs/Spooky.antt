-- Spooky's states after a round.
use Rattle.std.specs.Prelude.{ℕ, List, []}
use Rattle.hash_rounds.specs.Steps.{apply}
use Rattle.hash_rounds.specs.Rounds as rounds

abbrev pub spooky_end : List ℕ → List ℕ → List ℕ
spooky_end d s = apply 64 rounds.spooky_end_steps d s

abbrev pub short_mix : List ℕ → List ℕ
short_mix h = apply 64 rounds.short_mix_steps [] h

abbrev pub short_end : List ℕ → List ℕ
short_end h = apply 64 rounds.short_end_steps [] h
