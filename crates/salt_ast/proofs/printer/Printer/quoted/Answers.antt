use Rattle.salt_ast.proofs.Joins.{◌⨾◌}
use Rattle.salt_ast.proofs.printer.Printer.quoted.Goals as goal

pub returns : goal.returns
returns g c = c.bytes.ensures ⨾ c.doubled.ensures ⨾ c.bytes-2.ensures
