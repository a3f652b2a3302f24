use Rattle.salt_ast.proofs.Joins.{◌⨾◌}
use Rattle.salt_ast.proofs.program_texts.BodyCanonical.print.Goals as goal

pub returns-in-Acid : goal.returns-in-Acid
returns-in-Acid g c = rw (c.in-Acid.is, ← c.as_slice.ensures) (c.bytes.ensures ⨾ c.block.ensures)

pub returns-in-Base : goal.returns-in-Base
returns-in-Base g c = rw (c.in-Base.is, ← c.as_slice-in-Base.ensures) (c.bytes-in-Base.ensures ⨾ c.preceded.ensures)
