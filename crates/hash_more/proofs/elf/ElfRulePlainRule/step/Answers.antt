use Rattle.std.proofs.Common.{arith}
use Rattle.hash_more.specs.ElfLaws.{elf_low}
use Rattle.hash_more.proofs.elf.ElfRulePlainRule.step.Goals as goal

pub returns-clause-in_range : goal.returns-clause-in_range
returns-clause-in_range c = elf_low _ (omega arith)
