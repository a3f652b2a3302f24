use Rattle.salt_ast.proofs.Joins.{◌⨾◌}
use Rattle.salt_ast.proofs.program_texts.ProgramDefCanonical.print.Goals as goal

pub returns : goal.returns
returns g c =
    rw (← c.as_slice.ensures, ← c.as_slice-2.ensures)
    (c.bytes.ensures ⨾ c.kept.ensures ⨾ c.bytes-2.ensures ⨾ c.between_commas.ensures ⨾ c.bytes-3.ensures ⨾ c.variables.ensures ⨾ c.print.ensures
    ⨾ c.bytes-4.ensures)
