use Rattle.hash_blocks.proofs.Common.{◌+◌, ◌-◌, ◌*◌, ◌/◌, ◌%◌, ◌^◌, ◌∙◌, ℕ, ap₂, w64, to_le_bytes, IsByte, IsText-from_slice, All-from_get_or}
use Rattle.hash_blocks.proofs.WordLemmas.{joined-is}
use Rattle.hash_blocks.proofs.words.joined.Goals as goal

pub returns : goal.returns
returns c =
    let k = c.args.at in
    joined-is c.args.bytes.now c.args.text.now k c.to_le_bytes.result (All-from_get_or IsByte c.args.bytes.now 0 (λ i below. c.fits-bytes i)) c.told-bytes
    (IsText-from_slice c.args.text.now c.type_inv.text) c.requires.some c.requires.part c.requires.fits
    (c.to_le_bytes.ensures
    ∙ ap₂ (λ (a p : ℕ). to_le_bytes w64 ((a * 2 ^ (64 - 8 * k) % 2 ^ 64 / 2 ^ (64 - 8 * k) + p * 2 ^ (8 * k) % 2 ^ 64) % 2 ^ 64))
    c.le64.ensures c.le_seven.ensures.value)
