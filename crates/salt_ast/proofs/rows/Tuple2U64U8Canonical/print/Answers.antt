use Rattle.salt_ast.proofs.Joins.{◌⨾◌}
use Rattle.salt_ast.proofs.rows.Tuple2U64U8Canonical.print.Goals as goal

pub returns : goal.returns
returns g c = c.number.ensures ⨾ c.bytes.ensures ⨾ c.number-2.ensures
