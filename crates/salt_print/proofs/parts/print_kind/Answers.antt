use Rattle.salt_ast.proofs.Joins.{◌⨾◌}
use Rattle.salt_print.proofs.parts.print_kind.Goals as goal

pub returns-in-Acid : goal.returns-in-Acid
returns-in-Acid g c = rw c.in-Acid.is (c.bytes.ensures ⨾ c.natural.ensures)

pub returns-in-Call : goal.returns-in-Call
returns-in-Call g c = rw c.in-Call.is (c.bytes-in-Call.ensures ⨾ c.number.ensures ⨾ c.bytes-in-Call-2.ensures ⨾ c.call.ensures)

pub returns-in-First : goal.returns-in-First
returns-in-First g c = rw c.in-First.is (c.bytes-in-First.ensures ⨾ c.number-in-First.ensures ⨾ c.bytes-in-First-2.ensures ⨾ c.base.ensures ⨾ c.bytes-in-First-3.ensures ⨾ c.call-in-First.ensures)

pub returns-in-Later : goal.returns-in-Later
returns-in-Later g c = rw c.in-Later.is (c.bytes-in-Later.ensures ⨾ c.base-in-Later.ensures ⨾ c.bytes-in-Later-2.ensures ⨾ c.number-in-Later.ensures)
