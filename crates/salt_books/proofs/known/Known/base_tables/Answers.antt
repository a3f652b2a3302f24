use Rattle.salt_ast.specs.declared.programs.ProgramDef.{ProgramDef}
use Rattle.salt_ast.specs.declared.trees.TableDef.{TableDef}
use Rattle.salt_books.proofs.Shown.{known-shown}
use Rattle.salt_books.proofs.known.Known.base_tables.Goals as goal
use Rattle.salt_model.specs.Kept.{schema_of}
use Rattle.salt_model.specs.Locks.{names_table, numbers_from}
use Rattle.std.proofs.Common.{List, ap, ◌∙◌}
use Rattle.std.proofs.lemmas.Result.{IfOk-weaker}
use Rattle.std.specs.List.{list_any}

pub returns : goal.returns
returns c = IfOk-weaker c.base_tables.result _ _ (λ numbers e k h.
    let same = known-shown _ _ k c.self.view_is h in
    e
    ∙ (ap (λ (ds : List TableDef). numbers_from 0 (λ (d : TableDef). list_any (names_table d.name) c.self.inside.catalogue) ds) same.schema
    ∙ ap (λ (ps : List ProgramDef). numbers_from 0 (λ (d : TableDef). list_any (names_table d.name) ps) (schema_of k)) same.catalogue)) c.base_tables.ensures
