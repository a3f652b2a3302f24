use Rattle.salt_ast.proofs.Joins.{◌⨾◌}
use Rattle.salt_print.proofs.names.print_unit.Goals as goal

pub returns : goal.returns
returns g c = c.bytes.ensures ⨾ c.id.ensures
