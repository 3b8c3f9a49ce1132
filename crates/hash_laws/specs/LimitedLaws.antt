-- What came of reading, by hashes that agree.
use Rattle.std.proofs.Common.{ℕ, ◌≡◌, ◌∙◌, List, Result, Ok, Err}
use Rattle.hash_laws.specs.Text.{IsText}
use Rattle.hash_laws.specs.declared.reading.limited.Unhashed.{Unhashed}
use Rattle.hash_laws.specs.declared.reading.limited.Unhashed.TheVariants.{ReadFault, TooLong}
use Rattle.hash_laws.specs.Limited.{Reading, Hashes}

-- two hashes that agree on each text
pub Hashes-agree : (hash same : List ℕ → ℕ) → ((text : List ℕ) → IsText text → hash text ≡ same text)
    → (reading : Reading) (result : Result ℕ Unhashed)
    → Hashes hash reading result → Hashes same reading result
Hashes-agree hash same agree reading (Ok number) (text, all, is) = (text, all, is ∙ agree text all.is_text)
Hashes-agree hash same agree reading (Err (ReadFault fault)) refused = refused
Hashes-agree hash same agree reading (Err TooLong) refused = refused
