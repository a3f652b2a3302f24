use Rattle.salt_ast.proofs.Joins.{◌⨾◌}
use Rattle.salt_ast.proofs.rows.RowCanonical.print.Goals as goal

pub returns : goal.returns
returns g c = rw (← c.as_slice.ensures) (c.bytes.ensures ⨾ c.between_commas.ensures ⨾ c.bytes-2.ensures)
