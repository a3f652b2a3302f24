use Rattle.salt_ast.proofs.Joins.{◌⨾◌}
use Rattle.salt_ast.proofs.printer.Printer.call.Goals as goal

pub returns : goal.returns
returns g c = c.kept.ensures ⨾ c.print.ensures
