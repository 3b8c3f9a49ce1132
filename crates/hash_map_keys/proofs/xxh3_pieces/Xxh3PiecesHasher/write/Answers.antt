use Rattle.hash_map_keys.proofs.Common.{ap, begun_at, ◌∙◌}
use Rattle.hash_map_keys.proofs.OnePiece.{of_bytes}
use Rattle.hash_map_keys.proofs.xxh3_pieces.Xxh3PiecesHasher.write.Goals as goal

pub returns-else-bytes-eq1 : goal.returns-else-bytes-eq1
returns-else-bytes-eq1 c = ap begun_at (c.piece_in-self.ensures ∙ of_bytes c.args.self.now.state c.args.bytes.now c.if-bytes-eq1.false)
