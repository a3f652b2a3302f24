use Rattle.salt_ast.proofs.Joins.{◌⨾◌}
use Rattle.salt_ast.proofs.printer.Printer.id.Goals as goal

pub returns : goal.returns
returns g c = c.natural.ensures ⨾ c.bytes.ensures ⨾ c.natural-2.ensures
