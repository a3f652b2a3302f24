use Rattle.salt_schema.proofs.FieldNames.{unknown_name-none, unknown_name-some}
use Rattle.salt_schema.proofs.names.unknown_variable.Goals as goal
use Rattle.salt_schema.specs.Names.{variables}

pub returns-in-Some : goal.returns-in-Some
returns-in-Some c = unknown_name-some (variables c.args.bindings.now) c.args.name.now _ c.in-Some.ensures

pub returns-in-None : goal.returns-in-None
returns-in-None c = unknown_name-none (variables c.args.bindings.now) c.args.name.now c.in-None.ensures
