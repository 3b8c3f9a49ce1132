use Rattle.hash_map_keys.proofs.Common.{ap, arith, byte_step, piece_step, sym, ◌∙◌}
use Rattle.hash_map_keys.proofs.OnePiece.{of_byte, of_bytes, of_number, same_byte, same_state}
use Rattle.hash_map_keys.proofs.laws.pieces_of_xxh3_keep_apart.Goals as goal

pub returns-clause-numbers : goal.returns-clause-numbers
returns-clause-numbers c = λ seed a b a_in b_in same.
    c.keys_of_one_width_never_collide.ensures.numbers seed a b a_in b_in
    (of_number seed 8 a (omega arith) ∙ same ∙ sym (of_number seed 8 b (omega arith)))

pub returns-clause-states : goal.returns-clause-states
returns-clause-states c = same_state

pub returns-clause-bytes : goal.returns-clause-bytes
returns-clause-bytes c = same_byte

pub returns-clause-strings : goal.returns-clause-strings
returns-clause-strings c = λ seed text some.
    sym (of_byte (piece_step seed text) 255) ∙ ap (λ s. byte_step s 255) (sym (of_bytes seed text (λ one. omega (arith, some, one))))
