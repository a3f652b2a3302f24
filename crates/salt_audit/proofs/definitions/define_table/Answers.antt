use Rattle.salt_ast.specs.declared.trees.TableDef.{TableDef}
use Rattle.salt_audit.proofs.definitions.define_table.Goals as goal
use Rattle.std.proofs.Common.{[], ap, ◌++◌, ◌∙◌, ◌∷◌}

pub returns : goal.returns
returns c = c.in-Ok.ensures.ok ∙ ap (λ (d : TableDef). c.args.schema.now ++ d ∷ []) c.in_ok-own.ensures
