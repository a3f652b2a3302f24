use Rattle.salt_books.proofs.tables.is_base_name.Given as goal
use Rattle.salt_model.specs.Locks.{names_table}
use Rattle.std.proofs.Common.{drop, ◌≡◌}
use Rattle.std.specs.List.{list_any}

abbrev pub invariant-loop-number : goal.invariant-loop-number
invariant-loop-number l = list_any (names_table l.name) l.catalogue ≡ list_any (names_table l.name) (drop l.number l.catalogue)
