use Rattle.hash_map_keys.proofs.Common.{ap, begun_at, ◌∙◌}
use Rattle.hash_map_keys.proofs.OnePiece.{of_byte}
use Rattle.hash_map_keys.proofs.xxh3_pieces.Xxh3PiecesHasher.write_u8.Goals as goal

pub returns : goal.returns
returns c = ap begun_at (c.byte_in-self.ensures ∙ of_byte c.args.self.now.state c.args.number)
