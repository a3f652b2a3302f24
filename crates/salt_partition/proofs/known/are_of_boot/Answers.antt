use Rattle.salt_partition.proofs.Seeing.{all_units}
use Rattle.salt_partition.proofs.known.are_of_boot.Goals as goal
use Rattle.salt_stands.specs.OpenedPart.{is_of_boot}
use Rattle.std.proofs.Common.{◌∙◌}

pub returns : goal.returns
returns c = c.all_of_boot.ensures ∙ all_units (is_of_boot c.args.boot) c.args.units.now
