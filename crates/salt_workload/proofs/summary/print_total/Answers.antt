use Rattle.salt_ast.proofs.Joins.{◌⨾◌}
use Rattle.salt_workload.proofs.summary.print_total.Goals as goal

pub returns-in-Some : goal.returns-in-Some
returns-in-Some g c = rw c.in-Some.is (c.bytes.ensures ⨾ c.print.ensures)

pub returns-in-None : goal.returns-in-None
returns-in-None g c = rw c.in-None.is (c.bytes.ensures ⨾ c.bytes-in-None.ensures)
