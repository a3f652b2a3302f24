use Rattle.salt_ast.proofs.Joins.{◌⨾◌}
use Rattle.salt_print.proofs.shown.print_place.Goals as goal

pub returns-in-Next : goal.returns-in-Next
returns-in-Next g c = rw c.in-Next.is (c.bytes-in-Next.ensures ⨾ c.number.ensures)
