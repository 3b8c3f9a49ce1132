use Rattle.std.proofs.Common.{arith, lit<}
use Rattle.streams.proofs.HexLemmas.{next_fits}
use Rattle.streams.proofs.hex.hex_number.Goals as goal

pub overflow_mul-number : goal.overflow_mul-number
overflow_mul-number c =
    omega (arith, next_fits c.loop-byte.number c.loop-byte.byte-index 0 c.loop-byte.invariant.small (omega arith) (lit< tt))

pub overflow_add-number : goal.overflow_add-number
overflow_add-number c =
    omega (
      arith,
      c.from.ensures,
      next_fits c.loop-byte.number c.loop-byte.byte-index c.in_ok-digit_value.field-0
          c.loop-byte.invariant.small (omega arith) c.in_ok-digit_value.ensures.small,
    )
