-- Checks that end well.
use Rattle.std.specs.Prelude.{ℕ, ◌≡◌, All, true, List, Option, Some, None, codes}
use Rattle.hash_lines.specs.declared.sums.Sum.{Sum}
use Rattle.cli.specs.Call.{Saying, operands, value_of}
use Rattle.cli.specs.Files.{Opens, files_or}
use Rattle.cli.specs.Frame.{request_of}
use Rattle.cli.specs.declared.frame.Request.TheVariants.{Work}
use Rattle.cli.specs.Keys.{HasKeys}
use Rattle.hashsum_core.specs.Keys.{AreKeysFor}
use Rattle.hashsum_core.specs.Passed.{HasPassed}
use Rattle.hashsum_core.specs.Program.{asked, checking_of, key_file, key_rule, misuse_of, taken}
use Rattle.hash_lines.specs.Sums.{kind_of, kinds}

-- nothing is wrong with a call, and all its lists passed, by the hash that it asks for alone, or by all; those under keys by the keys in
-- its key file
pub record HasEndedWell (opens : Opens) (call : List Saying) : Type 0 where
  pub works : request_of call ≡ Work
  pub no_misuse : misuse_of call ≡ None
  pub keys : Option (ℕ × ℕ)
  pub are_keys : AreKeysFor (key_rule call) opens (key_file call) keys
  pub kind : Sum
  pub is_asked : kind_of (kinds true) (asked call) ≡ Some kind
  pub passed : All (HasPassed (taken (checking_of call keys kind)) (checking_of call keys kind) opens) (files_or (operands call))

-- a call gives a key file, which holds these keys
abbrev pub GivesKeys : Opens → (call : List Saying) → ℕ × ℕ → Type 0
GivesKeys opens call keys = (file : List ℕ) × (value_of (codes "key-file") call ≡ Some file) × HasKeys (opens file) keys
