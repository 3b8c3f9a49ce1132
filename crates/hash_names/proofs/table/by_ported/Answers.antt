use Rattle.hash_names.proofs.Words.{whole_fx32, whole_fx64}
use Rattle.hash_names.proofs.table.by_ported.Goals as goal

-- pieces of 4096 bytes are whole words
pub returns-in-FxHash : goal.returns-in-FxHash
returns-in-FxHash g c =
    rw c.in-FxHash.is (g.met.T.HashTask.by_same _ _ _ (λ text bytes. whole_fx64 text) _ _ _ _ c.by_pieces-in-FxHash.ensures)

pub returns-in-FxHash32 : goal.returns-in-FxHash32
returns-in-FxHash32 g c =
    rw c.in-FxHash32.is (g.met.T.HashTask.by_same _ _ _ (λ text bytes. whole_fx32 text) _ _ _ _ c.by_pieces-in-FxHash32.ensures)

pub returns-in-FxHash64 : goal.returns-in-FxHash64
returns-in-FxHash64 g c =
    rw c.in-FxHash64.is (g.met.T.HashTask.by_same _ _ _ (λ text bytes. whole_fx64 text) _ _ _ _ c.by_pieces-in-FxHash64.ensures)
