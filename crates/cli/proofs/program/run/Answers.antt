use Rattle.cli.proofs.Common.{[], sym, subst}
use Rattle.cli.specs.Program.{IsStatus}
use Rattle.cli.proofs.program.run.Goals as goal

pub returns-in-Err : goal.returns-in-Err
returns-in-Err g c = ([], subst (IsStatus _) (sym c.from-in-Err.ensures) (c.without_memory.ensures _))
