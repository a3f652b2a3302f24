use Rattle.salt_ast.proofs.Joins.{◌⨾◌}
use Rattle.salt_ast.proofs.clauses.ScanCanonical.print.Goals as goal

pub returns-in-Key : goal.returns-in-Key
returns-in-Key g c = rw c.in-Key.is (c.bytes.ensures ⨾ c.print.ensures ⨾ c.filter-in-Key.ensures)

pub returns-in-Between : goal.returns-in-Between
returns-in-Between g c =
    rw c.in-Between.is
    (c.bytes-in-Between.ensures ⨾ c.print-in-Between.ensures ⨾ c.bytes-in-Between-2.ensures ⨾ c.print-in-Between-2.ensures ⨾ c.filter-in-Between.ensures)
