use Rattle.salt_ast.proofs.Joins.{◌⨾◌}
use Rattle.salt_ast.proofs.printer.Printer.from_key.Goals as goal

pub returns : goal.returns
returns g c = c.bytes.ensures ⨾ c.kept.ensures ⨾ c.bytes-2.ensures ⨾ c.print.ensures
