use Rattle.salt_ast.proofs.Joins.{◌⨾◌}
use Rattle.salt_print.proofs.events.print_base.Goals as goal

pub returns : goal.returns
returns g c = c.base.ensures ⨾ c.bytes.ensures
