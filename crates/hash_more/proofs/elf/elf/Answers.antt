use Rattle.std.proofs.Common.{◌^◌, lit<}
use Rattle.hash_laws.specs.ByteLaws.{recurrence_below}
use Rattle.hash_more.specs.Elf.{elf_step}
use Rattle.hash_more.specs.ElfLaws.{elf_in_range}
use Rattle.hash_more.proofs.elf.elf.Goals as goal

pub returns-clause-below : goal.returns-clause-below
returns-clause-below c =
    rw c.hash_by_plain.ensures.value
    (recurrence_below elf_step (2 ^ 28) elf_in_range 0 c.args.bytes.now (lit< tt) c.hash_by_plain.ensures.text)
