use Rattle.hash_words.proofs.Common.{ℕ, ◌/◌, ◌%◌, ◌^◌, ◌∙◌, ap, All-from_get_or}
use Rattle.hash_words.proofs.ByteLemmas.{le-two}
use Rattle.hash_words.proofs.PieceLemmas.{IsByte}
use Rattle.hash_words.proofs.WordLemmas.{from_le_bytes-16}
use Rattle.hash_words.proofs.words.le_two.Goals as goal

pub returns-clause-first : goal.returns-clause-first
returns-clause-first c =
    let bytes = c.args.bytes.now in
    ap (λ (n : ℕ). n % 2 ^ 64) (c.from_le_bytes-both.ensures ∙ from_le_bytes-16 bytes c.told-bytes)
    ∙ (le-two bytes (All-from_get_or IsByte bytes 0 (λ i below. c.fits-bytes i)) c.told-bytes).0

pub returns-clause-second : goal.returns-clause-second
returns-clause-second c =
    let bytes = c.args.bytes.now in
    ap (λ (n : ℕ). n / 2 ^ 64) (c.from_le_bytes-both.ensures ∙ from_le_bytes-16 bytes c.told-bytes)
    ∙ (le-two bytes (All-from_get_or IsByte bytes 0 (λ i below. c.fits-bytes i)) c.told-bytes).1
