use Rattle.law_generations.proofs.AsIf.{checkpoint_as_if}
use Rattle.law_generations.proofs.laws.checkpoints_make_generations.Goals as goal
use Rattle.salt_stands.specs.Fitting.{definitions_reading}
use Rattle.std.proofs.Common.{None}

pub returns : goal.returns
returns g = checkpoint_as_if (definitions_reading (λ bytes. None))
