use Rattle.salt_schema.proofs.Rows.{are_row-length}
use Rattle.salt_schema.proofs.types.are_row.Goals as goal
use Rattle.salt_schema.specs.Names.{variables}

pub returns-then-columns-values : goal.returns-then-columns-values
returns-then-columns-values c = are_row-length c.args.columns.now (variables c.args.bindings.now) c.args.values.now c.if-columns-values.true
