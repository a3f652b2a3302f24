-- Stories that print: one of a row with NULL, and one of definitions.
use Rattle.salt_ast.specs.ProgramTexts.{program_text}
use Rattle.salt_ast.specs.Sample.{all_rows, field}
use Rattle.salt_ast.specs.Texts.{table_text}
use Rattle.salt_ast.specs.Trees.{null, null_test, number}
use Rattle.salt_ast.specs.declared.programs.Body.TheVariants as body
use Rattle.salt_ast.specs.declared.programs.ProgramDef.{ProgramDef}
use Rattle.salt_ast.specs.declared.trees.ColType.TheVariants as column
use Rattle.salt_ast.specs.declared.trees.Statement.TheVariants as statement
use Rattle.salt_ast.specs.declared.trees.Statement.{Statement}
use Rattle.salt_ast.specs.declared.trees.TableDef.{TableDef}
use Rattle.salt_ast.specs.declared.trees.What.TheVariants as what
use Rattle.salt_model.specs.declared.events.Answer.TheVariants as answer
use Rattle.salt_model.specs.declared.events.End.TheVariants as end
use Rattle.salt_model.specs.declared.events.Event.TheVariants as event
use Rattle.salt_model.specs.declared.events.Event.{Event}
use Rattle.salt_model.specs.declared.events.UnitKind.TheVariants as kind
use Rattle.salt_values.specs.declared.id.Id.{Id}
use Rattle.salt_values.specs.declared.value.Value.TheVariants as value
use Rattle.std.specs.Prelude.{List, [], codes, pos, true, ℕ, ◌∷◌}

abbrev pub t : List ℕ
t = codes "t"

abbrev pub table : TableDef
table = record { name = t; columns = field (codes "k") column.Int ∷ record (field (codes "v") column.Int) { nullable = true } ∷ []; checks = [] }

abbrev pub schema : List TableDef
schema = table ∷ []

abbrev pub unit : Id
unit = record { boot = 1; seq = 1 }

abbrev pub insert_null : Statement
insert_null = statement.Insert t (number (pos 1) ∷ null ∷ [])

abbrev pub select_all : Statement
select_all = statement.Select what.All t all_rows

abbrev pub null_story : List Event
null_story =
    event.Began unit (kind.Acid 1) ∷
    event.Did unit insert_null (answer.Count 1) ∷
    event.Did unit select_all (answer.Rows ((value.Int (pos 1) ∷ value.Null ∷ []) ∷ [])) ∷
    event.Ended unit (end.Committed 1) ∷ []

-- 1 is not null
abbrev pub one_is_there : Statement
one_is_there = statement.Ensure (null_test true (number (pos 1)))

abbrev pub program : ProgramDef
program = record { name = codes "p"; params = []; vars = []; body = body.Acid (one_is_there ∷ []) }

abbrev pub definition_story : List Event
definition_story = event.Defined 1 (table_text table) ∷ event.Defined 2 (program_text program) ∷ []
