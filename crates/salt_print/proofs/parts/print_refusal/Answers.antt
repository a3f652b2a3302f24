use Rattle.salt_ast.proofs.Joins.{◌⨾◌}
use Rattle.salt_print.proofs.parts.print_refusal.Goals as goal

pub returns-in-Limit : goal.returns-in-Limit
returns-in-Limit g c = rw (c.in-Limit.is, ← c.word.ensures) (c.bytes-in-Limit.ensures ⨾ c.bytes-in-Limit-2.ensures)

pub returns-in-Unknown : goal.returns-in-Unknown
returns-in-Unknown g c = rw c.in-Unknown.is (c.bytes-in-Unknown.ensures ⨾ c.kept.ensures)

pub returns-in-Exists : goal.returns-in-Exists
returns-in-Exists g c = rw c.in-Exists.is (c.bytes-in-Exists.ensures ⨾ c.kept-in-Exists.ensures)

pub returns-in-Branch : goal.returns-in-Branch
returns-in-Branch g c = rw c.in-Branch.is (c.bytes-in-Branch.ensures ⨾ c.number.ensures)
