use Rattle.salt_ast.proofs.Joins.{◌⨾◌}
use Rattle.salt_print.proofs.shown.print_shown.Goals as goal

pub returns : goal.returns
returns g c = rw (← c.len.ensures, ← c.as_slice.ensures) (c.print_items.ensures ⨾ c.bytes.ensures ⨾ c.number.ensures)
