use Rattle.salt_ast.proofs.Joins.{◌⨾◌}
use Rattle.salt_print.proofs.shown.print_item.Goals as goal

pub returns-in-Lock : goal.returns-in-Lock
returns-in-Lock g c = rw c.in-Lock.is (c.print_lock.ensures ⨾ c.bytes.ensures)

pub returns-in-Base : goal.returns-in-Base
returns-in-Base g c = rw c.in-Base.is (c.bytes-in-Base.ensures ⨾ c.base.ensures ⨾ c.bytes-in-Base-2.ensures ⨾ c.kept.ensures ⨾ c.bytes-in-Base-3.ensures ⨾ c.print_place.ensures ⨾ c.bytes-in-Base-4.ensures)
