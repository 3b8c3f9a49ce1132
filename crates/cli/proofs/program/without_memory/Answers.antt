use Rattle.cli.proofs.Common.{inr, refl}
use Rattle.streams.specs.declared.failure.Failure.TheVariants.{NoMemory}
use Rattle.cli.specs.declared.outcome.Outcome.TheVariants.{Failed}
use Rattle.cli.proofs.program.without_memory.Goals as goal

pub returns : goal.returns
returns g c = λ request. record { outcome = Failed NoMemory; ends = inr refl; is = c.ended.ensures }
