use Rattle.hash_blocks.proofs.Common.{◌≡◌, ◌∙◌, ℕ, List, length, ap, arith, take-append-le, IsText-from_slice}
use Rattle.hash_blocks.proofs.WordLemmas.{word_begins}
use Rattle.hash_blocks.proofs.words.put_front.Goals as goal

pub returns-in-Some-clause-placed : goal.returns-in-Some-clause-placed
returns-in-Some-clause-placed g c =
    let text = c.args.text.now in
    let size : length c.to_le_bytes.result ≡ 8 = ap (λ (l : List ℕ). length l) c.to_le_bytes.ensures in
    take-append-le (length text) c.to_le_bytes.result _ (omega (arith, size, c.requires.few))
    ∙ word_begins text c.le_seven.result c.to_le_bytes.result (IsText-from_slice text c.type_inv.text) (omega (arith, c.requires.few))
    c.le_seven.ensures.value c.to_le_bytes.ensures
