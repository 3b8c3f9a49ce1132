-- What a check is proved to see.
use Rattle.std.specs.Prelude.{ℕ, ◌≡◌, ◌≢◌, ◌⊎◌, ◌+◌, ◌^◌, ◌≤◌, max, All, Bool, true, false, List, Option, Some, Result, Ok, codes, length}
use Rattle.std.specs.Str.{bytes_eq}
use Rattle.std.specs.declared.io.Error.{Error}
use Rattle.hash_theorems.specs.Xxh32Words.{DifferInOneWord}
use Rattle.hash_keyed.specs.Poly61.{prime61, word_count, ArePairs}
use Rattle.hash_theorems.specs.Bursts.{DifferWithinBits}
use Rattle.hash_laws.specs.DifferWithin.{DifferInOneBlock}
use Rattle.hashers.specs.DifferWithin.{DifferAtOnePlace, DifferWithin}
use Rattle.hashers.specs.Fx.{words32, words64}
use Rattle.hashers.specs.Text.{IsText}
use Rattle.hashsum_core.specs.declared.check.Verdict.TheVariants.{Same}
use Rattle.hash_lines.specs.declared.sums.Sum.{Sum}
use Rattle.hashsum_core.specs.Checking.{IsVerdict}
use Rattle.cli.specs.Files.{Opens}
use Rattle.hashsum_core.specs.Files.{ReadsFile}
use Rattle.hash_lines.specs.Sums.{name_in, number_named, sum_of}

-- the name has a hash; and if a file is the same by it as a first text, then the text that was read of the file has this hash, and does
-- not differ from the first text by such a change
abbrev pub NeverPasses : {F : Type 0} (opens : F → Opens) (name : List ℕ) (Changed : (first second : List ℕ) → Type 0) → Type 0
NeverPasses {F} opens name Changed = (hash : List ℕ → ℕ) × (number_named name ≡ Some hash) × (
    (folder : F) (file : List ℕ) (ignore_missing : Bool) (first : List ℕ) → IsText first
    → IsVerdict (opens folder file) hash ignore_missing (hash first) Same
    → (held : Option (List ℕ)) × opens folder file (Ok held)
    × (text : List ℕ) × ReadsFile held text × (hash text ≡ hash first) × ¬ (Changed first text))

-- the texts have one length and differ in exactly one of their words
abbrev pub DifferAtOneWord : (words : List ℕ → List ℕ) (x y : List ℕ) → Type 0
DifferAtOneWord words x y = (length x ≡ length y) × DifferAtOnePlace (words x) (words y)

-- whatever opens is a file that holds this text
abbrev pub HoldsOnly : (opens : Result (Option (List ℕ)) Error → Type 0) → List ℕ → Type 0
HoldsOnly opens text = (held : Option (List ℕ)) → opens (Ok held) → held ≡ Some text

-- if a file holds another text than the one that its line was made of, it passes under few pairs of keys
abbrev pub FewPairsPass : {F : Type 0} (opens : F → Opens) (hash : (keys : ℕ × ℕ) → List ℕ → ℕ) → Type 0
FewPairsPass {F} opens hash = (folder : F) (file : List ℕ) (ignore_missing : Bool) (first text : List ℕ) (pairs : List (ℕ × ℕ))
    → IsText first → IsText text → first ≢ text → HoldsOnly (opens folder file) text → ArePairs prime61 pairs
    → All (λ keys. IsVerdict (opens folder file) (hash keys) ignore_missing (hash keys first) Same) pairs
    → length pairs ≤ (max (word_count first) (word_count text) + 1) ^ 2

-- this where a test holds, and else the other
abbrev pub Chooses : Bool → (this other : Type 0) → Type 0
Chooses true this other = this
Chooses false this other = other

-- what these words say that a check by a hash sees is so: no file with such a change passes it; and there are no other words
abbrev pub IsSeen : {F : Type 0} (opens : F → Opens) → Sum → (words : List ℕ) → Type 0
IsSeen opens sum words =
    let sees = NeverPasses opens (name_in sum) in
    let byte = sees DifferAtOnePlace in
    Chooses (bytes_eq words (codes "no promise")) (Unit {0}) (
    Chooses (bytes_eq words (codes "1 changed byte")) byte (
    Chooses (bytes_eq words (codes "1 changed byte, or changes within 2 neighbouring bytes")) (byte × sees (DifferWithin 2 0)) (
    Chooses (bytes_eq words (codes "1 changed byte, or changes within 3 neighbouring bytes")) (byte × sees (DifferWithin 3 0)) (
    Chooses (bytes_eq words (codes "1 changed byte, or changes within 6 in the low 5 bits")) (byte × sees (DifferWithin 6 0xE0)) (
    Chooses (bytes_eq words (codes "1 changed byte, or changes within 32 neighbouring bits")) (byte × sees (DifferWithinBits 32)) (
    Chooses (bytes_eq words (codes "1 changed word, of 8 bytes")) (sees (DifferAtOneWord words64)) (
    Chooses (bytes_eq words (codes "1 changed word, of 4 bytes"))
    (sees (DifferAtOneWord words32) ⊎ sees (DifferInOneBlock 4) ⊎ sees DifferInOneWord) (
    Chooses (bytes_eq words (codes "1 changed block, of 16 bytes")) (sees (DifferInOneBlock 16)) (
    Chooses (bytes_eq words (codes "any change, but under few keys")) (FewPairsPass opens (λ keys. sum_of keys sum)) ⊥)))))))))
