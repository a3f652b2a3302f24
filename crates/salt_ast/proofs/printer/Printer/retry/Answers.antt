use Rattle.salt_ast.proofs.Joins.{◌⨾◌}
use Rattle.salt_ast.proofs.printer.Printer.retry.Goals as goal

pub returns-in-Some : goal.returns-in-Some
returns-in-Some g c = rw c.in-Some.is (c.bytes.ensures ⨾ c.number.ensures ⨾ c.bytes-in-Some.ensures)
