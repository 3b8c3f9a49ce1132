use Rattle.hash_lines.proofs.Common.{◌≡◌, ◌<◌, ℕ, List, get_or, TellsTagged, Sum}
use Rattle.hash_lines.proofs.parse.body_entry.Given as goal

-- the kinds so far are not told
abbrev pub invariant-loop-tagged : goal.invariant-loop-tagged
invariant-loop-tagged l = (k : ℕ) → k < l.tagged-index → (other : Sum) → get_or l.kinds k other ≡ other
    → (name : List ℕ) (number : ℕ) → ¬ (TellsTagged other l.escapes name number l.body)
