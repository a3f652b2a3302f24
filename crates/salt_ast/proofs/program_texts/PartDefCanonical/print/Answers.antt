use Rattle.salt_ast.proofs.Joins.{◌⨾◌}
use Rattle.salt_ast.proofs.program_texts.PartDefCanonical.print.Goals as goal

pub returns : goal.returns
returns g c = rw (← c.as_slice.ensures) (c.bytes.ensures ⨾ c.block.ensures ⨾ c.then.ensures ⨾ c.failure.ensures)
