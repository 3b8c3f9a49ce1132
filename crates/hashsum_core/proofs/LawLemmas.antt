-- What a check sees.
use Rattle.hashsum_core.proofs.Common.{◌≡◌, ◌≢◌, arith, ℕ, Bool, ◌&&◌, nat_eq, List, Option, Some, Result, Ok, Err, if◌then◌else◌, refl, sym, ◌∙◌, nat_tests, error_kind, Error, Opens, Kind, Ported, Fnv1a32, name_of, read_of, number_named, is_not_found, IsVerdict, ReadsFile, NeverPasses, Same, Different, Unread, Missing, Unhashed, Unopened, kind_named}
use Rattle.hashers.specs.Text.{IsText}

-- a number that is said to be the same is the same
same_number : (told number : ℕ) → (if nat_eq number told then Same else Different) ≡ Same → number ≡ told
same_number told number says = grind (arith, nat_tests, says)

-- a file that was not opened is not the same
not_same : (missing : Bool) → (if missing then Missing else Unread) ≡ Same → ⊥
not_same missing says = grind (arith, says)

-- a hash that tells the texts apart
pub never_passes : (opens : Result (Option (List ℕ)) Error → Type 0) (hash : List ℕ → ℕ) (Changed : (first second : List ℕ) → Type 0)
    → ((x y : List ℕ) → IsText x → IsText y → Changed x y → hash x ≢ hash y)
    → (ignore_missing : Bool) (first : List ℕ) → IsText first
    → IsVerdict opens hash ignore_missing (hash first) Same
    → (held : Option (List ℕ)) × opens (Ok held)
    × (text : List ℕ) × ReadsFile held text × (hash text ≡ hash first) × ¬ (Changed first text)
never_passes opens hash Changed apart ignore_missing first is_text (Ok number, (held, can, (text, file, is)), says) =
    let same : hash text ≡ hash first = sym is ∙ same_number (hash first) number says in
    (held, can, text, file, same, λ changed. apart first text is_text file.1.is_text changed (sym same))
never_passes opens hash Changed apart ignore_missing first is_text (Err (Unopened error), can, says) =
    absurd (not_same (ignore_missing && is_not_found (error_kind error)) says)
never_passes opens hash Changed apart ignore_missing first is_text (Err (Unhashed why), can, says) = cc

-- a name's hash that tells the texts apart
pub named_never_passes : {F : Type 0} (opens : F → Opens) (name : List ℕ) (hash : List ℕ → ℕ) (Changed : (first second : List ℕ) → Type 0)
    → number_named name ≡ Some hash → ((x y : List ℕ) → IsText x → IsText y → Changed x y → hash x ≢ hash y)
    → NeverPasses opens name Changed
named_never_passes opens name hash Changed named apart =
    (hash, named, λ folder file. never_passes (opens folder file) hash Changed apart)

-- each kind is the hash of its name, row by row
pub row_is : (kind : Kind) → number_named (name_of kind) ≡ Some (read_of kind)
unfolding number_named kind_named
row_is (Ported Fnv1a32) = refl
row_is kind = refl

pub kind_never_passes : {F : Type 0} (opens : F → Opens) (kind : Kind) (Changed : (first second : List ℕ) → Type 0)
    → ((x y : List ℕ) → IsText x → IsText y → Changed x y → read_of kind x ≢ read_of kind y)
    → NeverPasses opens (name_of kind) Changed
kind_never_passes opens kind Changed apart = named_never_passes opens (name_of kind) (read_of kind) Changed (row_is kind) apart
