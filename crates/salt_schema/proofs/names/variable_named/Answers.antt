use Rattle.salt_schema.proofs.FieldNames.{field_named-first, field_named-second}
use Rattle.salt_schema.proofs.names.variable_named.Goals as goal
use Rattle.std.proofs.Common.{◌∙◌}

pub returns-in-Some : goal.returns-in-Some
returns-in-Some c = field_named-first c.args.bindings.now.params.now c.args.bindings.now.vars.now c.args.name.now _ c.in-Some.ensures

pub returns-in-None : goal.returns-in-None
returns-in-None c = c.field_named-in-None.ensures ∙ field_named-second c.args.bindings.now.params.now c.args.bindings.now.vars.now c.args.name.now c.in-None.ensures
