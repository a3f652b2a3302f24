use Rattle.salt_ast.proofs.Joins.{◌⨾◌}
use Rattle.salt_print.proofs.events.print_opened.Goals as goal

pub returns : goal.returns
returns g c = c.bytes.ensures ⨾ c.number.ensures ⨾ c.bytes-2.ensures ⨾ c.number-2.ensures
