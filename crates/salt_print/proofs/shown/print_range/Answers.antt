use Rattle.salt_ast.proofs.Joins.{◌⨾◌}
use Rattle.salt_print.proofs.shown.print_range.Goals as goal

pub returns-in-Some-Some : goal.returns-in-Some-Some
returns-in-Some-Some g c = rw (c.in-Some-Some.is-0, c.in-Some-Some.is-1) (c.print.ensures ⨾ c.bytes.ensures ⨾ c.print-in-Some-Some.ensures)
