use Rattle.salt_values.specs.Id.{has_id}
use Rattle.salt_partition.proofs.Seeing.{all_alike}
use Rattle.salt_partition.proofs.known.are_prepared.Goals as goal
use Rattle.salt_partition.specs.Contents.{units_of}
use Rattle.salt_stands.specs.Pieces.{is_prepared_in}
use Rattle.std.proofs.Common.{◌∙◌}

pub returns : goal.returns
returns c = c.all_in.ensures ∙ all_alike (λ id. has_id id c.in_ok-set.set.keys) (λ id. is_prepared_in id (units_of c.args.units.now)) c.args.ids.now c.in_ok-set.ensures
