use Rattle.law_generations.proofs.AsIf.{snapshot_as_if, snapshot_as_if_in}
use Rattle.law_generations.proofs.laws.snapshots_make_generations.Goals as goal
use Rattle.salt_stands.specs.Fitting.{definitions_reading}
use Rattle.std.proofs.Common.{None}

pub returns : goal.returns
returns g = record { same = snapshot_as_if (definitions_reading (λ bytes. None)); other = snapshot_as_if_in (definitions_reading (λ bytes. None)) }
