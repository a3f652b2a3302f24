use Rattle.salt_ast.proofs.Joins.{◌⨾◌}
use Rattle.salt_print.proofs.events.print_did.Goals as goal

pub returns : goal.returns
returns g c = c.bytes.ensures ⨾ c.print.ensures ⨾ c.bytes-2.ensures ⨾ c.print_answer.ensures
