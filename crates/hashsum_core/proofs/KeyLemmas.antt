-- Checks by two keys.
use Rattle.hashsum_core.proofs.Common.{◌≡◌, Bool, ℕ, ◌+◌, ◌*◌, ◌^◌, ◌<◌, List, Option, Some, None, Result, arith, mod-lt, mod-eq_of_lt, Error, prime61, poly61_at_both, append-nil, IsVerdict, ReadsFile, HoldsOnly, Same, nat_tests, common_steps}
use Rattle.hashers.specs.Text.{IsText}
use Rattle.hash_keyed.specs.Poly61State.{poly61, MeetAtBoth}
use Rattle.hashsum_core.proofs.LawLemmas.{never_passes}

-- a hash has 64 bits
pub in_64 : (key : ℕ) (text : List ℕ) → poly61 key text < 2 ^ 64
in_64 key text = grind (arith, nat_tests, common_steps, mod-lt)

-- two numbers of 64 bits side by side are one number
pub parts_are : (a b c d : ℕ) → b < 2 ^ 64 → d < 2 ^ 64 → a * 2 ^ 64 + b ≡ c * 2 ^ 64 + d → (a ≡ c) × (b ≡ d)
parts_are a b c d b_in d_in same = (omega (arith, b_in, d_in, same), omega (arith, b_in, d_in, same))

-- what was read to the end is all that there was
all_read : (held : Option (List ℕ)) (text read : List ℕ) → held ≡ Some text → ReadsFile held read → read ≡ text
all_read (Some held) text read is (Some left, reads) = grind (arith, nat_tests, common_steps, append-nil)
all_read (Some held) text read is (None, reads) = absurd reads.read
all_read None text read is reads = cc

pub meets_at_both : (opens : Result (Option (List ℕ)) Error → Type 0) (ignore_missing : Bool) (first text : List ℕ) → IsText first
    → HoldsOnly opens text → (keys : ℕ × ℕ) → keys.0 < prime61 → keys.1 < prime61
    → IsVerdict opens (poly61_at_both keys) ignore_missing (poly61_at_both keys first) Same → MeetAtBoth first text keys
meets_at_both opens ignore_missing first text is_first holds keys first_in second_in verdict =
    grind (arith, nat_tests, common_steps, never_passes, all_read, parts_are, in_64, mod-eq_of_lt)
