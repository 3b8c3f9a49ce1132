-- The hash of symbol names in ELF files (System V Application Binary Interface, edition 4.1, figure 5-13).
use Rattle.std.specs.Prelude.{ℕ, ◌+◌, ◌*◌, ◌/◌, ◌%◌, ◌^◌, List, bit_xor}
use Rattle.hash_laws.specs.Recurrence.{recurrence}

-- one byte: four bits further and the byte; the four high bits are xored in behind the four low ones, and taken off
abbrev pub elf_step : ℕ → ℕ → ℕ
elf_step h b =
    let word = (16 * h + b) % 2 ^ 32 in
    bit_xor (word % 2 ^ 28) (word / 2 ^ 28 * 2 ^ 4)

-- the state after a text, from a start, by default 0
abbrev pub elf_from : ℕ → List ℕ → ℕ
elf_from = recurrence elf_step
