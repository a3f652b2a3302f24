-- What expressions may name.
use Rattle.salt_ast.specs.declared.trees.Field.{Field}
use Rattle.salt_ast.specs.declared.trees.Scope.{Scope}
use Rattle.salt_schema.specs.declared.names.Bindings.{Bindings}
use Rattle.std.specs.Prelude.{List, ◌++◌}

-- the parameters and variables
abbrev pub variables : Bindings → List Field
variables b = b.params.now ++ b.vars.now

abbrev pub scope_of : Bindings → Scope
scope_of b = record { params = b.params.now; vars = b.vars.now }
