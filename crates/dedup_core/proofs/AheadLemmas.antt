-- The next lines, as they are found.
use Rattle.dedup_core.proofs.Common.{ℕ, ◌≡◌, ◌+◌, List, [], ◌∷◌, ◌++◌, ◌≤◌, length, drop, ap, subst, arith, length-drop, AreNext, IsFound}
use Rattle.dedup_core.specs.declared.ahead.Found.{Found}

-- what comes behind these lines
abbrev pub behind : List Found → (bytes : List ℕ) → List ℕ
behind [] bytes = bytes
behind (found ∷ more) bytes = behind more (drop (found.len + 1) bytes)

-- one line more is found
pub found_more : (eol : ℕ) (tag_of : List ℕ → ℕ) (found : List Found) (bytes rest : List ℕ) (line : Found)
    → AreNext eol tag_of bytes found → rest ≡ behind found bytes → IsFound eol tag_of rest line
    → AreNext eol tag_of bytes (found ++ line ∷ [])
found_more eol tag_of [] bytes rest line next is first = (subst (λ l. IsFound eol tag_of l line) is first, tt)
found_more eol tag_of (one ∷ more) bytes rest line next is first =
    (next.0, found_more eol tag_of more (drop (one.len + 1) bytes) rest line next.1 is first)

pub behind_more : (found : List Found) (bytes rest : List ℕ) (line : Found) → rest ≡ behind found bytes
    → drop (line.len + 1) rest ≡ behind (found ++ line ∷ []) bytes
behind_more [] bytes rest line is = ap (drop (line.len + 1)) is
behind_more (one ∷ more) bytes rest line is = behind_more more (drop (one.len + 1) bytes) rest line is

pub behind_within : (found : List Found) (bytes : List ℕ) → length (behind found bytes) ≤ length bytes
behind_within [] bytes = omega arith
behind_within (one ∷ more) bytes =
    omega (arith, behind_within more (drop (one.len + 1) bytes), length-drop (one.len + 1) bytes)
