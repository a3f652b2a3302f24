use Rattle.salt_ast.proofs.Joins.{◌⨾◌}
use Rattle.salt_print.proofs.parts.print_answer.Goals as goal

pub returns-in-Count : goal.returns-in-Count
returns-in-Count g c = rw c.in-Count.is (c.bytes.ensures ⨾ c.natural.ensures)

pub returns-in-Rows : goal.returns-in-Rows
returns-in-Rows g c = rw (c.in-Rows.is, ← c.as_slice.ensures) (c.bytes-in-Rows.ensures ⨾ c.preceded.ensures)

pub returns-in-Cell : goal.returns-in-Cell
returns-in-Cell g c = rw c.in-Cell.is (c.bytes-in-Cell.ensures ⨾ c.print_cell.ensures)

pub returns-in-Stored : goal.returns-in-Stored
returns-in-Stored g c = rw c.in-Stored.is (c.bytes-in-Stored.ensures ⨾ c.print.ensures)

pub returns-in-Failed : goal.returns-in-Failed
returns-in-Failed g c = rw c.in-Failed.is (c.bytes-in-Failed.ensures ⨾ c.print_cause.ensures)
