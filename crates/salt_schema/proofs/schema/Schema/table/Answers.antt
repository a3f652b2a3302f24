use Rattle.salt_ast.specs.declared.trees.TableDef.{TableDef}
use Rattle.salt_schema.proofs.Distinct.{lent-own}
use Rattle.salt_schema.proofs.schema.Schema.table.Goals as goal
use Rattle.salt_schema.specs.Definitions.{number_named}
use Rattle.std.proofs.Common.{List, Some, subst, ◌≡◌}
use Rattle.std.specs.Prelude.{IfSome}

pub returns-clause-own : goal.returns-clause-own
returns-clause-own c =
    subst (λ (schema : List TableDef). IfSome c.get.result (λ def. number_named (λ (d : TableDef). d.name) def.now.name schema ≡ Some c.args.number)) c.self.view_is
    (lent-own (λ (d : TableDef). d.name) c.self.inside.tables c.args.number c.get.result c.get.ensures.distinct c.get.ensures.value)
