use Rattle.salt_schema.proofs.Tables.{table_named-IsKnownAs}
use Rattle.salt_schema.proofs.unknown.columns_of.Goals as goal
use Rattle.std.proofs.Common.{None, Some, sym, ◌∙◌}

pub returns-in-Some : goal.returns-in-Some
returns-in-Some c = c.as_slice.ensures ∙ sym (table_named-IsKnownAs c.args.schema.now c.args.name.now (Some c.in-Some.def.now) c.in-Some.ensures).1

pub returns-in-None : goal.returns-in-None
returns-in-None c = sym (table_named-IsKnownAs c.args.schema.now c.args.name.now None c.in-None.ensures).1
