-- Whether rows may stand in their tables.
use Rattle.salt_ast.specs.declared.trees.TableDef.{TableDef}
use Rattle.salt_eval.specs.Meets.{meets_table}
use Rattle.salt_model.specs.Tables.{Entry, Tables}
use Rattle.std.specs.List.{list_all}
use Rattle.std.specs.Prelude.{Bool, List}

-- each row meets the table of its place
abbrev pub all_meet : List TableDef → Tables → Bool
all_meet schema es = list_all (λ (e : Entry). meets_table schema e.0.table e.1) es.list
