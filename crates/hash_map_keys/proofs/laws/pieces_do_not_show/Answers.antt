use Rattle.hash_map_keys.proofs.Pieces.{of_pieces}
use Rattle.hash_map_keys.proofs.laws.pieces_do_not_show.Goals as goal

pub returns : goal.returns
returns c keys pieces are = of_pieces keys pieces
