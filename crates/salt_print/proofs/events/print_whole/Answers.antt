use Rattle.salt_ast.proofs.Joins.{◌⨾◌}
use Rattle.salt_print.proofs.events.print_whole.Goals as goal

pub returns : goal.returns
returns g c = c.print_event_line.ensures ⨾ c.bytes.ensures
