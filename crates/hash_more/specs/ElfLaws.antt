-- The step of ELF's hash stays in range.
use Rattle.std.proofs.Common.{ℕ, ◌+◌, ◌*◌, ◌/◌, ◌%◌, ◌^◌, ◌<◌, bit_xor, arith}
use Rattle.std.proofs.lemmas.Nat.{xor_lt}
use Rattle.hash_more.specs.Elf.{elf_step}

pub elf_low : (word : ℕ) → word < 2 ^ 32 → bit_xor (word % 2 ^ 28) (word / 2 ^ 28 * 2 ^ 4) < 2 ^ 28
elf_low word known = xor_lt 28 (word % 2 ^ 28) (word / 2 ^ 28 * 2 ^ 4) (omega arith) (omega arith)

pub elf_in_range : (h b : ℕ) → h < 2 ^ 28 → b < 256 → elf_step h b < 2 ^ 28
elf_in_range h b known byte = elf_low ((16 * h + b) % 2 ^ 32) (omega arith)
