use Rattle.salt_ast.proofs.Joins.{◌⨾◌}
use Rattle.salt_print.proofs.parts.print_end.Goals as goal

pub returns-in-Committed : goal.returns-in-Committed
returns-in-Committed g c = rw c.in-Committed.is (c.bytes.ensures ⨾ c.number.ensures)

pub returns-in-Failed : goal.returns-in-Failed
returns-in-Failed g c = rw c.in-Failed.is (c.bytes-in-Failed.ensures ⨾ c.print_cause.ensures)

pub returns-in-Branched : goal.returns-in-Branched
returns-in-Branched g c = rw c.in-Branched.is (c.bytes-in-Branched.ensures ⨾ c.number-in-Branched.ensures ⨾ c.bytes-in-Branched-2.ensures ⨾ c.print_cause-in-Branched.ensures)

pub returns-in-RolledBack : goal.returns-in-RolledBack
returns-in-RolledBack g c = rw c.in-RolledBack.is (c.bytes-in-RolledBack.ensures)
