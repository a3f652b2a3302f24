use Rattle.salt_ast.specs.declared.programs.ProgramDef.{ProgramDef}
use Rattle.salt_program.proofs.catalogue.Catalogue.numbered.Goals as goal
use Rattle.salt_schema.proofs.Distinct.{lent-own}
use Rattle.salt_schema.specs.Definitions.{number_named}
use Rattle.std.proofs.Common.{List, Some, subst, ◌≡◌}
use Rattle.std.specs.Prelude.{IfSome}

pub returns-clause-own : goal.returns-clause-own
returns-clause-own c =
    subst (λ (catalogue : List ProgramDef). IfSome c.get.result (λ def. number_named (λ (p : ProgramDef). p.name) def.now.name catalogue ≡ Some c.args.number)) c.self.view_is
    (lent-own (λ (p : ProgramDef). p.name) c.self.inside.programs c.args.number c.get.result c.get.ensures.distinct c.get.ensures.value)
