use Rattle.salt_ast.proofs.Joins.{◌⨾◌}
use Rattle.salt_workload.proofs.summary.print_count.Goals as goal

pub returns : goal.returns
returns g c = c.bytes.ensures ⨾ c.number.ensures
