-- Checks that end well.
use Rattle.hashsum_core.proofs.Common.{◌≡◌, inl, inr, ℕ, arith, true, false, Bool, if◌then◌else◌, List, codes, Option, Some, None, Result, Ok, Err, All, refl, ap, subst, error_kind, Sum, Failure, Unwritten, Nothing, Opens, files_or, given, operands, Saying, kind_of, asked, checking_of, key_file, key_rule, misuse_of, summing_of, taken, work_by, work_of, EndsCall, EndsTask, EndsUnless, Checking, HasPassed, HasEndedWell, AreKeysFor, kinds, nat_tests, common_steps}
use Rattle.std.specs.declared.io.ErrorKind.{ErrorKind}
use Rattle.cli.specs.Outcome.{of_run, status_of, write_status}
use Rattle.cli.specs.declared.outcome.Outcome.{Outcome}
use Rattle.hashsum_core.proofs.PassLemmas.{lists_passed}
use Rattle.hashsum_core.specs.declared.outcome.Misuse.{Misuse}
use Rattle.hashsum_core.specs.declared.outcome.Task.TheVariants.{Check}
use Rattle.hashsum_core.specs.declared.outcome.Task.TheVariants as task
use Rattle.cli.specs.Frame.{request_of}
use Rattle.cli.specs.declared.frame.Request.TheVariants.{Work}
use Rattle.cli.specs.declared.frame.Text.{Text}
use Rattle.cli.specs.declared.outcome.Outcome.TheVariants.{Usage}
use Rattle.cli.specs.declared.outcome.Wrong.{Wrong}
use Rattle.cli.specs.declared.outcome.Wrong.TheVariants.{Own, UnknownName}

module _ (checking : Checking) (opens : Opens) where
  -- a write that fails does not end well
  fails_badly : (kind : ErrorKind) → write_status kind ≡ 0 → ⊥
  fails_badly kind is = grind (arith, is)

  ends_well : (ended : Result Bool (Failure Nothing)) → status_of {Misuse = Misuse} (of_run ended) ≡ 0 → ended ≡ Ok true
  ends_well (Ok true) is = refl
  ends_well (Ok false) is = absurd (omega arith)
  ends_well (Err (Unwritten (Some error))) is = absurd (fails_badly (error_kind error) is)
  ends_well (Err (Unwritten None)) is = absurd (omega arith)
  ends_well (Err fault) is = absurd (omega arith)

  pub check_passed : (lists : List (List ℕ)) (w w' : Option (List ℕ)) (outcome : Outcome Misuse Nothing)
      → EndsTask opens lists w w' (Ok (Check checking)) outcome → status_of outcome ≡ 0
      → All (HasPassed (taken checking) checking opens) lists
  check_passed lists w w' outcome (ended, ends, is) zero = grind (arith, nat_tests, common_steps, ends_well, lists_passed)

-- a call that ends well did its work
module _ (opens : Opens) (call : List Saying) (w w' : Option (List ℕ)) (outcome : Outcome Misuse Nothing) where
  not_well : (wrong : Wrong Misuse) → outcome ≡ Usage wrong → status_of outcome ≡ 0 → ⊥
  not_well wrong is zero = grind (arith, is, zero)

  -- by the hash that is asked for
  work_passed : request_of call ≡ Work → misuse_of call ≡ None → (keys : Option (ℕ × ℕ))
      → AreKeysFor (key_rule call) opens (key_file call) keys
      → given (codes "check") call ≡ true → (kind : Option Sum) → kind_of (kinds true) (asked call) ≡ kind
      → EndsTask opens (files_or (operands call)) w w' (work_by call keys kind) outcome → status_of outcome ≡ 0
      → HasEndedWell opens call
  work_passed works no_misuse keys are checks None is_kind (is, kept) zero = absurd (not_well UnknownName is zero)
  work_passed works no_misuse keys are checks (Some kind) is_kind ends zero =
      let files = files_or (operands call) in
      let task : work_of call keys kind ≡ Check (checking_of call keys kind) =
      ap (λ b. if b then Check (checking_of call keys kind) else task.Sum (summing_of call keys kind)) checks in record {
        works = works;
        no_misuse = no_misuse;
        keys = keys;
        are_keys = are;
        kind = kind;
        is_asked = is_kind;
        passed = check_passed (checking_of call keys kind) opens files w w' outcome
            (subst (λ t. EndsTask opens files w w' (Ok t) outcome) task ends) zero;
      }

  -- by what is wrong with the call
  unless_passed : request_of call ≡ Work → given (codes "check") call ≡ true → (misuse : Option Misuse) → misuse_of call ≡ misuse
      → EndsUnless misuse opens call w w' outcome → status_of outcome ≡ 0 → HasEndedWell opens call
  unless_passed works checks (Some misuse) is_misuse (is, kept) zero = absurd (not_well (Own misuse) is zero)
  unless_passed works checks None no_misuse (inl (keys, are, ends)) zero =
      work_passed works no_misuse keys are checks (kind_of (kinds true) (asked call)) refl ends zero
  unless_passed works checks None no_misuse (inr (inl (some, is, kept))) zero = absurd (grind (arith, is, zero))
  unless_passed works checks None no_misuse (inr (inr (is, kept))) zero = absurd (grind (arith, is, zero))

  pub call_passed : (texts : Text → List ℕ) → request_of call ≡ Work → given (codes "check") call ≡ true
      → EndsCall opens call texts w w' outcome → status_of outcome ≡ 0 → HasEndedWell opens call
  call_passed texts works checks ended zero = grind (arith, nat_tests, common_steps, unless_passed)
