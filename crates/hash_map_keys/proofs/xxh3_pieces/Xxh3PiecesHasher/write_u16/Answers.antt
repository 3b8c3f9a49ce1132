use Rattle.hash_map_keys.proofs.Common.{ap, arith, begun_at, le_bytes, xxh3_64_of, ◌∙◌}
use Rattle.hash_map_keys.proofs.OnePiece.{of_number}
use Rattle.hash_map_keys.proofs.xxh3_pieces.Xxh3PiecesHasher.write_u16.Goals as goal

pub returns : goal.returns
unfolding le_bytes
returns c =
    let s = c.args.self.now.state in
    ap begun_at (c.xxh3_64-self.ensures ∙ ap (xxh3_64_of s) c.to_le_bytes.ensures ∙ of_number s 2 c.args.number (omega arith))
