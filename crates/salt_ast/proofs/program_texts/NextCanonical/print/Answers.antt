use Rattle.salt_ast.proofs.Joins.{◌⨾◌}
use Rattle.salt_ast.proofs.program_texts.NextCanonical.print.Goals as goal

pub returns-in-Part : goal.returns-in-Part
returns-in-Part g c = rw c.in-Part.is (c.bytes.ensures ⨾ c.number.ensures)
