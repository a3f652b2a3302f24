use Rattle.salt_partition.proofs.Keyed.{unit_put}
use Rattle.salt_partition.proofs.units.unit_at.Goals as goal

pub returns-clause-put : goal.returns-clause-put
returns-clause-put g c = unit_put c.args.nulls c.deref.result.now c.in_ok-read_prepared.field-0 c.in_ok-read_prepared.ensures
