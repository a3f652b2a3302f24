use Rattle.salt_ast.specs.declared.trees.TableDef.{TableDef}
use Rattle.salt_books.proofs.tables.base_tables.Given as goal
use Rattle.salt_model.specs.Locks.{names_table, numbers_from}
use Rattle.std.proofs.Common.{drop, ◌++◌, ◌≡◌}
use Rattle.std.specs.List.{list_any}

abbrev pub invariant-loop-number : goal.invariant-loop-number
invariant-loop-number l =
    numbers_from 0 (λ (d : TableDef). list_any (names_table d.name) l.catalogue) l.schema
    ≡ l.numbers.items ++ numbers_from l.number (λ (d : TableDef). list_any (names_table d.name) l.catalogue) (drop l.number l.schema)
