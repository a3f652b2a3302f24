use Rattle.salt_partition.proofs.Headers.{names_sides}
use Rattle.salt_partition.proofs.units.header_at.Goals as goal

pub returns-clause-sides : goal.returns-clause-sides
returns-clause-sides g c = names_sides c.in_ok-read_header.field-0 c.deref.result.now c.in_ok-read_header.ensures
