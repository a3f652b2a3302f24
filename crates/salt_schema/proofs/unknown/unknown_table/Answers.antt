use Rattle.salt_schema.proofs.Tables.{table_named-IsKnownAs}
use Rattle.salt_schema.proofs.unknown.unknown_table.Goals as goal
use Rattle.std.proofs.Common.{None, Some, refl}

pub returns-in-Some : goal.returns-in-Some
returns-in-Some c = rw (table_named-IsKnownAs c.args.schema.now c.args.name.now (Some c.in-Some.field-0.now) c.in-Some.ensures).0 refl

pub returns-in-None : goal.returns-in-None
returns-in-None c = rw (table_named-IsKnownAs c.args.schema.now c.args.name.now None c.in-None.ensures).0 refl
