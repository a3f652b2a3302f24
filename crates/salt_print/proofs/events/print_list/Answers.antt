use Rattle.salt_ast.proofs.Joins.{◌⨾◌}
use Rattle.salt_print.proofs.events.print_list.Goals as goal

pub returns : goal.returns
returns g c = c.bytes.ensures ⨾ c.preceded.ensures
