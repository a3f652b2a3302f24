-- Tables by their names and numbers.
use Rattle.salt_ast.specs.declared.trees.TableDef.{TableDef}
use Rattle.salt_schema.specs.Definitions.{definition_named, number_named}
use Rattle.std.specs.Prelude.{List, Option, ℕ}

abbrev pub table_number : List TableDef → List ℕ → Option ℕ
table_number schema n = number_named (λ d. d.name) n schema

abbrev pub table_named : List TableDef → List ℕ → Option TableDef
table_named schema n = definition_named (λ d. d.name) n schema
