use Rattle.dedup_core.proofs.Lemmas.{ℕ, List, ◌≡◌, ◌++◌, drop, Appends, listed}
use Rattle.dedup_core.proofs.tally.write_tallies.Given as goal

-- what was written, and what is left to write
abbrev pub invariant-loop-i : goal.invariant-loop-i
invariant-loop-i g l =
    (part : List ℕ) × Appends (g.W.Write.contents l.initial.w) (g.W.Write.contents l.w) part
    × (part ++ listed l.eol l.which (drop l.i l.texts.texts) (drop l.i l.times) ≡ listed l.eol l.which l.texts.texts l.times)
