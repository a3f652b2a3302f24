use Rattle.salt_ast.proofs.Joins.{◌⨾◌}
use Rattle.salt_print.proofs.events.print_event_line.Goals as goal

pub returns-in-Began : goal.returns-in-Began
returns-in-Began g c = rw c.in-Began.is (c.print_unit.ensures ⨾ c.print_kind.ensures)

pub returns-in-Did : goal.returns-in-Did
returns-in-Did g c = rw (c.in-Did.is, ← c.get.ensures) (c.print_unit-in-Did.ensures ⨾ c.print_did.ensures)

pub returns-in-Waits : goal.returns-in-Waits
returns-in-Waits g c =
    rw (c.in-Waits.is, ← c.as_slice.ensures) (c.print_unit-in-Waits.ensures ⨾ c.bytes.ensures ⨾ c.print_owners.ensures)

pub returns-in-Ended : goal.returns-in-Ended
returns-in-Ended g c = rw c.in-Ended.is (c.print_unit-in-Ended.ensures ⨾ c.print_end.ensures)

pub returns-in-Down : goal.returns-in-Down
returns-in-Down g c = rw c.in-Down.is (c.bytes-in-Down.ensures ⨾ c.print_why.ensures)

pub returns-in-Refused : goal.returns-in-Refused
returns-in-Refused g c = rw c.in-Refused.is (c.bytes-in-Refused.ensures ⨾ c.print_refusal.ensures)
